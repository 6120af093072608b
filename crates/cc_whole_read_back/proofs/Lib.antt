mod Faults
mod Limits
mod OneAnswer
mod SomeAnswer
mod SomeTokens
