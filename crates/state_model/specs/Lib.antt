pub mod Canonical
pub mod Key
pub mod Lawful
pub mod Link
pub mod PipeKey
