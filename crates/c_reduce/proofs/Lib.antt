pub mod Results  -- the answer that stands in what reduce returns is its answer
