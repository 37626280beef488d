-- The roll after a call that takes bytes off an order.
pub mod After
