pub mod Results  -- the answer that stands in what read and write return is their answer
