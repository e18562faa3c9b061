pub mod TotalOrder
pub mod Upper
pub mod Written
