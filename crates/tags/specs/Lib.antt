-- HMAC over LSH, what the calls with a key answer, and these calls.
pub mod Hmac
pub mod KeyAnswer
pub mod Tag
pub mod Start
pub mod Finish
pub mod Check
