-- What a part of a term offers to what stands around it, and a term as rows of numbers.
pub mod Offers
pub mod Forms
