mod HiddenInside
mod OneMore
