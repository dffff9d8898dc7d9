pub mod Buffer
pub mod Answering
