mod ClassesRead
mod Joined
mod MembersRead
