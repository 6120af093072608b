mod BodiesRead
mod InitsRead
