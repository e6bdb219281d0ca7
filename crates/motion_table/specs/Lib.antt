pub mod Triples
pub mod Tables
