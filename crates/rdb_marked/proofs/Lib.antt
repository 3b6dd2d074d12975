pub mod Claim
pub mod Listing
