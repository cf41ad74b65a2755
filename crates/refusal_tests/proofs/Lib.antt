pub mod Dividing
