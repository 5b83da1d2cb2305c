pub mod Modulos
pub mod ScalarWords
