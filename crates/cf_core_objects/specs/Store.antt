-- The runner's objects and entered function, as the meaning sees them.
use Rattle.std.specs.Prelude.{ℕ, false, List, [], length, map, reverse, ℤ, Option, Some, None, slice_get, Result, Ok, Err}
use Rattle.cf_core.specs.Types.{SourceType, void}
use Rattle.cf_core.specs.FromTypes.{Tables}
use Rattle.cf_core.specs.Objects.{byte_at}
use Rattle.cf_core.specs.Places.{Route, type_at}
use Rattle.cf_core.specs.Store.{Value, Object, automatic, permanent, literal, zeroed_object, zero_of}
use Rattle.cf_core.specs.Store as store
use Rattle.cf_core.specs.Run.{State, Frame}
use Rattle.cf_core.specs.Run as run
use Rattle.cf_run_tree.specs.Tree.{list_of, arrays, shape_type}
use Rattle.cf_run_tree.specs.declared.shape.Bounds.{Bounds}
use Rattle.cf_run_tree.specs.declared.shape.Shape.{Shape}
use Rattle.cf_core_objects.specs.declared.object.Storage.{Storage}
use Rattle.cf_core_objects.specs.declared.object.Storage.TheVariants as storage
use Rattle.cf_core_objects.specs.declared.object.Cell.{Cell}
use Rattle.cf_core_objects.specs.declared.object.Literal.{Literal}
use Rattle.cf_core_objects.specs.declared.object.Objects.{Objects}
use Rattle.cf_core_objects.specs.declared.object.Entered.{Entered}
use Rattle.cf_core_objects.specs.declared.answer.Stop.{Stop}
use Rattle.cf_core_objects.specs.declared.answer.Value.{Value as Given}
use Rattle.cf_core_objects.specs.declared.answer.Value.TheVariants as given
use Rattle.cf_core_objects.specs.Log.{logged}
pub use Rattle.cf_core_objects.specs.Log.{value_of}

abbrev pub as_number : Result ℤ Stop → Result Given Stop
as_number (Err e) = Err e
as_number (Ok z) = Ok (given.Number z)

abbrev pub stored : Storage → store.Storage
stored storage.Automatic = automatic
stored storage.Permanent = permanent
stored (storage.Literal bytes) = literal

-- what an object of this type holds at first
abbrev pub first_held : SourceType → Storage → Route → Option Value
first_held t storage.Automatic π = None
first_held t storage.Permanent π = Some (zero_of (type_at [] t π))
first_held t (storage.Literal bytes) π = byte_at bytes.now π

abbrev pub local_object : Option (Option ℕ) → Option ℕ
local_object None = None
local_object (Some o) = o

abbrev pub frame_of : Entered → Frame
frame_of e = record {
  function = e.name.now;
  count = e.count;
  this = None;
  result = None;
  depth = e.depth;
  locals = λ i. local_object (slice_get e.locals.items i);
  scope = reverse e.scope.items;
  temporaries = reverse e.temporaries.items;
}

abbrev pub literal_of : Literal → run.Literal
literal_of x = record { function = x.function.now; number = x.number; object = x.object }

module _ (T : Tables) where
  abbrev pub cell_type : Cell → SourceType
  cell_type c = arrays (list_of c.bounds) (shape_type T c.shape)

  abbrev pub object_of : Option Cell → Object
  object_of None = zeroed_object [] void
  object_of (Some c) = record {
    type = cell_type c;
    held = logged (cell_type c) (first_held (cell_type c) c.storage) c.log.items;
    life = λ π. None;
    storage = stored c.storage;
    is_gone = c.is_gone;
  }

  -- one of this type that was just made
  abbrev pub fresh : Shape → Bounds → Storage → Object
  fresh shape bounds st = record {
    type = arrays (list_of bounds) (shape_type T shape);
    held = first_held (arrays (list_of bounds) (shape_type T shape)) st;
    life = λ π. None;
    storage = stored st;
    is_gone = false;
  }

  abbrev pub objects_of : List Cell → ℕ → Object
  objects_of cells o = object_of (slice_get cells o)

  abbrev pub state_of : Entered → Objects → State
  state_of e x = record {
    next = length x.cells.items;
    object = objects_of x.cells.items;
    literals = reverse (map literal_of x.literals.items);
    reached = reverse (map (λ name. name.now) x.reached.items);
    finished = [];
    frame = frame_of e;
  }
