pub mod Images  -- where the hops of graph 1 stand in graph 2 once they are mapped
pub mod Facts  -- that what is known of two graphs and a map are propositions
