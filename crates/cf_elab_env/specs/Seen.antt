-- What the code holds, as the definitions of elaboration see it.
use Rattle.std.specs.Prelude.{ℕ, List, [], map}
use Rattle.cf_elab.specs.Env as env
use Rattle.cf_elab.specs.Operand as operand
use Rattle.cf_elab_env.specs.declared.hand.BodyKind.{BodyKind}
use Rattle.cf_elab_env.specs.declared.hand.BodyKind.TheVariants as kind
use Rattle.cf_elab_env.specs.declared.object.Home.{Home}
use Rattle.cf_elab_env.specs.declared.object.Home.TheVariants as home
use Rattle.cf_elab_env.specs.declared.object.Object.{Object}
use Rattle.cf_elab_env.specs.declared.entity.Entity.{Entity}
use Rattle.cf_elab_env.specs.declared.entity.Entity.TheVariants as entity
use Rattle.cf_elab_env.specs.declared.sort.Sort.{Sort}
use Rattle.cf_elab_env.specs.declared.sort.Sort.TheVariants as sort

abbrev pub kind_seen : BodyKind → env.BodyKind
kind_seen kind.File = env.file_level
kind_seen kind.Plain = env.plain_body
kind_seen kind.Main = env.main_body

abbrev pub home_seen : Home → env.Home
home_seen (home.Local i) = env.local_home i
home_seen (home.Static name) = env.static_home name

abbrev pub object_seen : Object → env.Object
object_seen x = record {
  type = x.ty;
  home = home_seen x.home;
  number = x.number;
  at = x.at;
  is_defined = x.is_defined;
  is_internal = x.is_internal;
  is_extern = x.is_extern;
}

abbrev pub entity_seen : Entity → env.Entity
entity_seen (entity.Object x) = env.object (object_seen x)
entity_seen (entity.Functions fs) = env.functions fs
entity_seen (entity.Alias t) = env.alias t
entity_seen (entity.Enum e) = env.enum_name e
entity_seen (entity.Enumerator t z) = env.enumerator t z

abbrev pub sort_seen : Sort → operand.Sort
sort_seen (sort.Integral k) = operand.integral k
sort_seen (sort.Enumeral e) = operand.enumeral e
sort_seen (sort.ObjectPointer t) = operand.object_pointer t
sort_seen sort.VoidPointer = operand.void_pointer
sort_seen (sort.FunctionPointer t) = operand.function_pointer t
sort_seen (sort.Array t n) = operand.array_sort t n
sort_seen (sort.Function f) = operand.function_sort f
sort_seen sort.Void = operand.void_sort
sort_seen (sort.Reference t) = operand.reference_sort t
