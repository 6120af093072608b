-- The plain statements as data, for definitions by cases. Each has one effect. Values stand in the registers of a function, by number; objects
-- are its parameters and locals, by number, and the locals hold its temporaries and the objects of the parameters of what it calls too.
use Rattle.std.specs.Prelude.{ℕ, Bool, List, ℤ, Option}
use Rattle.cf_base.specs.declared.kind.Kind.{Kind}
use Rattle.cf_base.specs.declared.arith.Arith.{Arith}
use Rattle.cf_core.specs.declared.operators.UnaryOperator.{UnaryOperator}
use Rattle.cf_core.specs.declared.operators.PointerOperator.{PointerOperator}
use Rattle.cf_core.specs.Types.{Name, SourceType}
use Rattle.cf_core.specs.Classes.{Class}
use Rattle.cf_core.specs.Subobjects.{Path}
use Rattle.cf_core.specs.Core.{Part, Target, Change, Role}

abbrev pub Register : Type 0
Register = ℕ

-- What one step does, and gives. Its operands stand in registers; a place stands for an lvalue and for a pointer to it alike.
pub data Action : Type 0 where
  -- values and places (5)
  number : ℤ → Action  -- (2.5)
  text : ℕ → List ℕ → Action  -- the literal of this number in its function (2.5.4)
  this : Action  -- (9.3.1)
  result : Action  -- the place of a result of class type (6.6.3)
  local : ℕ → Action
  static_object : Name → SourceType → Action
  function : Name → SourceType → Action
  member : Register → ℕ → Action  -- (5.2.4)
  built_part : Part → Action  -- the base or data member of the object under construction (12.6.2)
  read : Register → Action  -- (4.1)
  dereference : Register → Action  -- (5.3)
  decay : Register → Action  -- (4.6)
  index : Register → Register → Action  -- (5.2.1)
  convert : SourceType → Register → Action  -- (4)
  up : Path → Register → Action  -- (4.6)
  down : Name → Path → Register → Action  -- (5.4)
  from_void : SourceType → Register → Action  -- (5.4)
  to_member : Path → Register → Action  -- (4.8)
  data_pointer : ℕ → Action  -- (5.3)
  function_pointer : Target → Action
  through : Register → Register → Action  -- (5.5)
  operate : Arith → Kind → Register → Register → Action  -- (5.6 to 5.13)
  unary : UnaryOperator → Kind → Register → Action
  truth : Register → Action  -- 1 or 0
  logical_not : Register → Action
  pointer_operate : PointerOperator → Register → Register → Action  -- (5.7, 5.9, 5.10)
  changed : Change → Register → Register → Action  -- the new value of a scalar (5.17)
  -- what is done to objects
  store : Register → Register → Action  -- a value to a scalar place (5.17)
  declare : ℕ → SourceType → Action  -- a local is there; gives its place (6.7)
  first : Register → Register → Action  -- the first value of a scalar or reference (8.4)
  zeros : Register → Action
  bytes : Register → List ℕ → Action  -- a char array by these bytes, and 0 behind (8.4.2)
  begin_list : Register → Action  -- a class object that a list builds (8.4.1)
  end_list : Register → Action
  carry : SourceType → Register → Register → Action  -- to a place, memberwise, as its first value (12.8)
  carry_over : SourceType → Register → Register → Action  -- over what stands there
  finish : SourceType → ℕ → Action  -- the object of a local, if it has one, is destroyed, and its storage ends (6.6)
  new : SourceType → Action  -- storage for an object, or null (5.3.3)
  new_array : SourceType → Register → Action  -- for so many elements
  delete : Bool → SourceType → Register → Action  -- in the form for arrays where true (5.3.4)
  -- static objects (3.4, 6.7); what is done to one gives its place, that of a reference too (8.4.3)
  is_reached : Name → Action  -- 1 or 0
  reach : Name → Action
  finish_static : Name → Action  -- it is to be destroyed at the end of the run
  -- calls, on the locals that are their parameters' objects, and with the place for a result of class type (5.2.2)
  call : Name → SourceType → Option Register → List ℕ → Option Register → Action
  virtual_call : Name → SourceType → Register → List ℕ → Option Register → Action
  pointer_call : Option Register → Register → SourceType → List ℕ → Option Register → Action
  build : Name → SourceType → Register → List ℕ → Action  -- a constructor, of a place

mutual
  pub data Plain : Type 0 where
    act : Action → Plain
    set : Register → Action → Plain  -- what the action gives is kept
    branch : Register → Plains → Plains → Plain  -- by a number, 0 or not
    loop : Plains → Plains → Plain  -- turns without end, and what is done before each further turn; each turn spends a tick
    switch : Register → Plains → Plain  -- by a number, over statements with labels
    case_label : ℤ → Plain
    default_label : Plain
    leave : Plain  -- the innermost loop or switch
    continue : Plain
    give : Option Register → Plain
    parts : PlainParts → Plain  -- of a constructor: virtual bases in a whole object alone (12.6.2)

  pub data Plains : Type 0 where
    nothing : Plains
    more : Plain → Plains → Plains

  pub data PlainParts : Type 0 where
    no_parts : PlainParts
    part : Part → Plains → PlainParts → PlainParts

pub record PlainFunction : Type 0 where
  pub name : Name
  pub role : Role
  pub type : SourceType
  pub locals : List SourceType
  pub body : Plains
  pub is_shared : Bool
  pub is_local : Bool

pub record PlainStatic : Type 0 where
  pub name : Name
  pub type : SourceType
  pub locals : List SourceType  -- of its initialiser
  pub start : Plains
  pub owner : Option Name
  pub is_constant : Bool
  pub is_shared : Bool
  pub is_local : Bool

-- a file
pub record PlainFile : Type 0 where
  pub classes : List Class
  pub functions : List PlainFunction
  pub statics : List PlainStatic
