pub mod SelfAnswer
