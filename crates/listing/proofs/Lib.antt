pub mod Next
pub mod InOrder
