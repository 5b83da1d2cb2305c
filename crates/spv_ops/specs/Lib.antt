pub mod Results
pub mod ScalarWords
