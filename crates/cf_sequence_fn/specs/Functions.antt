-- What is written for a function, for a static object, and for a file.
use Rattle.std.specs.Prelude.{ℕ, suc, ◌+◌, List, [], ◌∷◌, length, map}
use Rattle.std.specs.declared.alloc.Global.{Global}
use Rattle.cf_types.specs.Table.{Table}
use Rattle.cf_core.specs.declared.unit.CoreFn.{CoreFn}
use Rattle.cf_core.specs.declared.unit.CoreStatic.{CoreStatic}
use Rattle.cf_core.specs.FromUnit.{Unit}
use Rattle.cf_plain.specs.declared.unit.PlainFn.{PlainFn}
use Rattle.cf_plain.specs.declared.unit.PlainStatic.{PlainStatic}
use Rattle.cf_plain.specs.View as plain
use Rattle.cf_sequence_expr.specs.declared.writing.Writing.{Writing}
use Rattle.cf_sequence_expr.specs.Pieces.{piece}
use Rattle.cf_sequence_stmt.specs.declared.body.Body.{Body}
use Rattle.cf_sequence_stmt.specs.declared.body.Open.{Open}
use Rattle.cf_sequence_stmt.specs.Bodies.{left_to, placed}
use Rattle.cf_sequence_stmt.specs.Steps.{step, binds, inside_loop}

-- parameters of these types, numbered from the first
abbrev pub opens_from : ℕ → List ℕ → List Open
opens_from k [] = []
opens_from k (t ∷ ts) = record { number = k; ty = t } ∷ opens_from (suc k) ts

-- Nothing is written yet: the locals that are added come behind the function's own, and its parameters are there.
abbrev pub begun : Global → CoreFn → Body
begun alloc f = record {
  writing = record { alloc = alloc; code = []; next = length f.params + length f.locals };
  scope = opens_from 0 f.params;
}

-- The statements of a function's body, and the ends of its parameters and locals where it flows off its end (6.6.3).
unfoldable pub written_body : Table → Global → CoreFn → Body
written_body types alloc f =
    let b = begun alloc f in
    left_to 0 ((step types f.body).act (inside_loop b) b)

-- its locals, and those that are added
abbrev pub written_locals : Table → CoreFn → List ℕ
written_locals types f = (piece types f.body).locals f.locals

unfoldable pub written_function : Table → Global → CoreFn → PlainFn
written_function types alloc f = record {
  name = f.name;
  role = f.role;
  result = f.result;
  params = f.params;
  locals = written_locals types f;
  body = Writing.code (Body.writing (written_body types alloc f));
  is_shared = f.is_shared;
  is_local = f.is_local;
}

-- nothing is written of an initialiser yet
abbrev pub blank_writing : Global → Writing
blank_writing alloc = record { alloc = alloc; code = []; next = 0 }

-- a static object, with the locals that its initialiser adds
unfoldable pub written_object : Table → Global → CoreStatic → PlainStatic
written_object types alloc x =
    let s = step types x.start in
    record {
      name = x.name;
      ty = x.ty;
      locals = (piece types x.start).locals [];
      start = Writing.code (placed x.name x.ty (binds x.start) s.initial s.piece (blank_writing alloc));
      owner = x.owner;
      is_constant = x.is_constant;
      is_shared = x.is_shared;
      is_local = x.is_local;
    }

-- a file, with the frame bounds that are given
abbrev pub written_unit : Global → List ℕ → Unit → plain.Unit
written_unit alloc frames unit = record {
  types = unit.types;
  classes = unit.classes;
  functions = map (written_function unit.types alloc) unit.functions;
  statics = map (written_object unit.types alloc) unit.statics;
  frames = frames;
}
