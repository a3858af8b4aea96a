pub mod Silent  -- silent hops, what they lead to, rings, and the answer of row 5
