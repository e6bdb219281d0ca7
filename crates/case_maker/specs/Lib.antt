pub mod NextCall
