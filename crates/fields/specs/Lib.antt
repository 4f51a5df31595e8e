pub mod Kind
pub mod Place
pub mod Record
