-- The core as plain data, for definitions by cases: the tree of a function's body or of an initialiser. Functions, objects and classes go
-- by link names and codes, types by their structure, and the places of the text are left out.
use Rattle.std.specs.Prelude.{ℕ, Bool, List, ℤ, Option}
use Rattle.cf_base.specs.declared.kind.Kind.{Kind}
use Rattle.cf_base.specs.declared.arith.Arith.{Arith}
use Rattle.cf_core.specs.declared.operators.UnaryOperator.{UnaryOperator}
use Rattle.cf_core.specs.declared.operators.PointerOperator.{PointerOperator}
use Rattle.cf_core.specs.declared.operators.LoopForm.{LoopForm}
use Rattle.cf_core.specs.Types.{Name, SourceType}
use Rattle.cf_core.specs.Classes.{Class}
use Rattle.cf_core.specs.Subobjects.{Step, Path}

-- one step from a place to a part of it: an element, one past a lone object, a data member, a base
pub data Part : Type 0 where
  item : ℕ → Part
  past : Part
  field : ℕ → Part
  within : Step → Part

-- what a function name or a pointer to a member function leads to: one function, or the overrider of this signature (10.2)
pub data Target : Type 0 where
  direct : Name → Target
  dispatched : Name → Target

-- How a scalar is changed in place: an operator at the first type and back to the second, or a pointer moved forward or, where true, back.
pub data Change : Type 0 where
  arithmetic : Arith → Kind → Kind → Change
  moved : Bool → Change

-- what a reference binds: a place, or a temporary that lives as long, as a local of this number and type or as a static object
pub data Holder : Type 0 where
  no_temporary : Holder
  local_temporary : ℕ → SourceType → Holder
  static_temporary : Name → Holder

mutual
  pub data Core : Type 0 where
    -- values and places (5)
    number : ℤ → Core  -- a constant (2.5)
    text : ℕ → List ℕ → Core  -- the literal of this number in its function, with its ending 0 (2.5.4)
    this : Core  -- the object of a member function (9.3.1), as a place
    local : ℕ → Core  -- a parameter or local; parameters come first
    static_object : Name → SourceType → Core  -- with the type that this file declares it with
    function : Name → SourceType → Core
    member : Core → ℕ → Core  -- a data member of a place of its class (5.2.4)
    read : Core → Core  -- the value of a scalar place (4.1)
    address : Core → Core  -- of a place (5.3)
    dereference : Core → Core  -- the place that a pointer points to (5.3)
    decay : Core → Core  -- from an array to its first element (4.6)
    index : Core → Core → Core  -- a pointer and an integer, in either order (5.2.1)
    convert : SourceType → Core → Core  -- to an integer type, from 0 to a pointer, or to void (4)
    up : Path → Core → Core  -- from a place or pointer to a base (4.6, 4.7)
    down : Name → Path → Core → Core  -- from a base at this path to the class (5.4)
    from_void : SourceType → Core → Core  -- from `void*` to a pointer to this type (5.4)
    to_member : Path → Core → Core  -- from a pointer to a member of the base at this path (4.8)
    data_pointer : ℕ → Core  -- to this data member (5.3)
    function_pointer : Target → Core  -- to a member function (5.3)
    through : Core → Core → Core  -- the data member of a place that a pointer names (5.5)
    operate : Arith → Kind → Core → Core → Core  -- on operands of a promoted type (5.6 to 5.13)
    unary : UnaryOperator → Kind → Core → Core  -- (5.3)
    logical_not : Core → Core  -- (5.3)
    logical_and : Core → Core → Core  -- (5.14)
    logical_or : Core → Core → Core  -- (5.15)
    pointer_operate : PointerOperator → Core → Core → Core  -- (5.7, 5.9, 5.10)
    conditional : Core → Core → Core → Core  -- (5.16)
    comma : Cores → Core  -- (5.18)
    store : Core → Core → Core  -- a value to a scalar place (5.17)
    update : Core → Change → Core → Core  -- (5.17)
    step : Bool → Change → Core → Core  -- `++` and `--`; where true the value before is given (5.2.5, 5.3)
    -- a class or array to a place, memberwise or by its own assignment (12.8); where that takes an object and not a reference, the object is
    -- built by the copy constructor, with these default arguments behind the first
    assign : SourceType → Core → Core → Cores → Core
    temporary : SourceType → Core → Core  -- a temporary, built by an initialiser (12.2)
    call : Name → SourceType → MaybeCore → Cores → Core  -- of a function of this type, on an object (5.2.2)
    virtual_call : Name → SourceType → Core → Cores → Core  -- of the function of this signature (10.2)
    pointer_call : MaybeCore → Core → SourceType → Cores → Core
    new : SourceType → Core → Core  -- with the initialiser of the object (5.3.3)
    new_array : SourceType → Core → Core → Core  -- of these elements, so many, with the initialiser of the array
    delete : SourceType → Core → Core  -- (5.3.4)
    delete_array : SourceType → Core → Core
    -- initialisers of a place (8.4, 12.6); a value is one too
    build : Name → SourceType → Cores → Core  -- by this constructor
    -- from another place of this type, memberwise or by its copy constructor, with these default arguments behind the first (12.8, 8.2.6)
    copy : SourceType → Core → Cores → Core
    each : Core → Core  -- every element by this initialiser
    list : Cores → Core → Core  -- elements or members in order, and each one more by the last initialiser (8.4.1)
    string : List ℕ → Core  -- an array of characters by these bytes, and 0 behind (8.4.2)
    bind : Holder → Core → Core  -- a reference (8.4.3)
    zeros : Core  -- every scalar is 0 or null
    blank : Core  -- nothing is done
    -- statements (6)
    full : Core → Core  -- an expression statement (6.2)
    block : Cores → Core  -- (6.3)
    sequence : Cores → Core  -- statements in order, in the scope at hand, as a `for` with a declaration makes them (6.5.3)
    declare : ℕ → SourceType → Core → Core  -- a local, and its initialiser (6.7)
    once : Name → Core → Core  -- a static object's initialiser, run when it is first reached (6.7)
    branch : Core → Core → MaybeCore → Core  -- `if` (6.4.1)
    loop : LoopForm → MaybeCore → MaybeCore → Core → Core  -- the condition, the step, the body (6.5)
    switch : Core → Cores → Core  -- (6.4.2)
    case_label : ℤ → Core
    default_label : Core
    leave : Core  -- `break` (6.6.1)
    continue : Core  -- (6.6.2)
    give : MaybeCore → Core  -- `return`, with the initialiser of the result (6.6.3)
    parts : Parts → Core → Core  -- a constructor's initialisers in order of building, then its body (12.6.2)

  pub data Cores : Type 0 where
    none : Cores
    more : Core → Cores → Cores

  pub data MaybeCore : Type 0 where
    absent : MaybeCore
    given : Core → MaybeCore

  -- each base or data member with its initialiser
  pub data Parts : Type 0 where
    no_parts : Parts
    part : Part → Core → Parts → Parts

-- what kind of function it is: a constructor and a destructor build and destroy an object of this class (12.1, 12.4)
pub data Role : Type 0 where
  plain_function : Role
  member_function : Name → Role
  constructor : Name → Role
  destructor : Name → Role

pub record Function : Type 0 where
  pub name : Name  -- its link name
  pub role : Role
  pub type : SourceType
  pub locals : List SourceType
  pub body : Core
  pub is_shared : Bool
  pub is_local : Bool

pub record Static : Type 0 where
  pub name : Name
  pub type : SourceType
  pub start : Core  -- its initialiser; `blank` for a local static that isn't constant, whose initialiser stands in its function
  pub owner : Option Name  -- the function whose local it is: the literals of its initialiser are numbered there (2.5.4, 6.7)
  -- whether it takes effect before any function is entered; a temporary that a static reference binds does nothing of its own, and counts here
  pub is_constant : Bool
  pub is_shared : Bool
  pub is_local : Bool

-- a file
pub record CoreFile : Type 0 where
  pub classes : List Class
  pub functions : List Function
  pub statics : List Static
