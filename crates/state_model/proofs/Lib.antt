mod KeyWords
pub mod LinkedStates
mod Links
mod Numbers
pub mod PipeKeys
