pub mod ClaimPoints
