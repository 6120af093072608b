-- The names in scope, by the marks on the stack.
use Rattle.std.specs.Prelude.{ℕ, suc, if◌then◌else◌, List, [], ◌∷◌, Option, Some, None, bytes_eq}
use Rattle.cc_whole.specs.declared.statement.CLocal.{CLocal}
use Rattle.cc_whole.specs.declared.unit.CParameter.{CParameter}
use Rattle.cc_whole_mean.specs.declared.named.Named.{Named}
use Rattle.cc_whole_mean.specs.declared.named.Named.TheVariants.{Variable as variable}
use Rattle.cc_whole_mean.specs.declared.named.Shape.{Shape}
use Rattle.cc_whole_mean.specs.declared.named.Shape.TheVariants.{Single as single}
use Rattle.cc_whole_mean.specs.Types.{scalar_of, local_shape}
use Rattle.cc_whole_mean.specs.Scope.{Scope, bind_locals, bind_parameters}
use Rattle.cc_whole_start.specs.Table.{scope_of as file_scope}
use Rattle.cc_whole_step.specs.declared.mark.Mark.{Mark}
use Rattle.cc_whole_step.specs.declared.mark.Mark.TheVariants as mark
use Rattle.cc_whole_step.specs.declared.frames.Frames.{Frames}
use Rattle.cc_whole_step.specs.declared.frames.Look.{Look}
use Rattle.cc_whole_step.specs.declared.frames.Look.TheVariants as look

-- the last one of a name from this block on, or the one found before
abbrev pub last_of : {A : Type 0} → (A → List ℕ) → (A → Shape) → Option Named → ℕ → List A → List ℕ → Option Named
last_of name_of shape_of found b [] name = found
last_of name_of shape_of found b (x ∷ xs) name =
    last_of name_of shape_of (if bytes_eq name (name_of x) then Some (variable b (shape_of x)) else found) (suc b) xs name

abbrev pub last_local : Option Named → ℕ → List CLocal → List ℕ → Option Named
last_local found b xs name = last_of (λ (x : CLocal). x.name) (λ (x : CLocal). local_shape x.ty) found b xs name

abbrev pub last_parameter : Option Named → ℕ → List CParameter → List ℕ → Option Named
last_parameter found b xs name = last_of (λ (x : CParameter). x.name) (λ (x : CParameter). single (scalar_of x.ty)) found b xs name

-- what is found, or else this
abbrev pub over : Option Named → Option Named → Option Named
over None below = below
over (Some named) below = Some named

-- the names in scope above a mark, by those of the file and those below it: a function sees its parameters and the file's names
abbrev pub layer : Scope → Mark → Scope → Scope
layer file (mark.Rest level all) scope = scope
layer file (mark.Items level all) scope = scope
layer file (mark.Turn level b) scope = scope
layer file mark.Switch scope = scope
layer file (mark.Locals locals first) scope = bind_locals locals.now first scope
layer file (mark.Parameters parameters first count) scope = bind_parameters parameters.now first file
layer file (mark.Back at) scope = scope

-- the names in scope above all these marks, the lowest first
abbrev pub scope_over : Scope → Scope → List Mark → Scope
scope_over file scope [] = scope
scope_over file scope (m ∷ ms) = scope_over file (layer file m scope) ms

abbrev pub scope_of : Frames → Scope
scope_of f = scope_over (file_scope f.file) (file_scope f.file) f.marks.items

-- what a mark says of a name: what it stands for, what it stands for below, or what it stands for in the file
abbrev pub look_in : Look → Option Named → Option Named → Option Named
look_in (look.Here named) file below = Some named
look_in look.Below file below = below
look_in look.File file below = file
