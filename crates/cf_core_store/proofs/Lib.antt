mod Acts
mod Steps
mod StoreLaws
