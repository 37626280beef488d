-- Laws of HMAC over LSH, of what an answer to a call with a key says, and of tags.
pub mod Digests
pub mod Keys
pub mod Accepted
pub mod Started
pub mod Checked
