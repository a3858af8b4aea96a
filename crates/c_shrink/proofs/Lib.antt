pub mod Results  -- the answer that stands in what shrink returns is that of reduce
