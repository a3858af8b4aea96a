pub mod RoundTrip  -- a file read and written again, and a graph written and read again
