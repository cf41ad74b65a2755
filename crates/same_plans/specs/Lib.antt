pub mod SamePlans
