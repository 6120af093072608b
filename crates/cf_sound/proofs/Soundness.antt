-- The test of a file, part by part, is that it is sound.
use Rattle.std.proofs.Common.{◌≡◌, ◌∙◌, Bool, true, false, ◌&&◌, not, nat_le, List, [], ◌∷◌, length, ap, ap₂, refl, sym}
use Rattle.std.specs.Prelude.{find}
use Rattle.std.specs.List.{list_all}
use Rattle.cf_core.specs.Calls.{is_library}
use Rattle.cf_core.specs.Core as core
use Rattle.cf_core.specs.Core.{Core, Function, Static, CoreFile}
use Rattle.cf_core.specs.Nodes.{nodes}
use Rattle.cf_core.specs.Places.{is_reference}
use Rattle.cf_core.specs.Typing.{Scope, is_function}
use Rattle.cf_core.specs.Valid.{body_of}
use Rattle.cf_core_sound.specs.Calls.{frame_types}
use Rattle.cf_core_sound.specs.Programs.{outside, is_main}
use Rattle.cf_core_sound.specs.Proper.{most, is_proper}
use Rattle.cf_core_sound.specs.Simple.{is_whole, has_object, function_fits}
use Rattle.cf_file_sound.specs.Files.{alone, is_sound_holder, is_sound_node, is_sound_tree, is_sound_body, is_sound_object, stands_for_main, is_sound_file}
use Rattle.cf_sequence.specs.Statements.{binds}
use Rattle.cf_sound.specs.Asked.{node_fits, tree_fits}
use Rattle.cf_sound.specs.Files.{body_fits, head_fits, object_fits, all_fit, file_fits}

and-true : (b : Bool) → (b && true) ≡ b
and-true true = refl
and-true false = refl

grouped : (a b c d e : Bool) → ((a && (b && (c && d))) && e) ≡ (a && (b && (c && (d && e))))
grouped true true true d e = refl
grouped true true false d e = refl
grouped true false c d e = refl
grouped false b c d e = refl

all-same : {A : Type 0} (p q : A → Bool) → ((x : A) → p x ≡ q x) → (xs : List A) → list_all p xs ≡ list_all q xs
all-same p q same [] = refl
all-same p q same (x ∷ xs) = ap₂ (λ b c. b && c) (same x) (all-same p q same xs)

module _ (file : CoreFile) where
  same-node : (scope : Scope) (e : Core) → node_fits file scope.locals e ≡ is_sound_node file scope e
  same-node scope (core.text j bytes) = and-true (nat_le (length bytes) most)
  same-node scope (core.static_object name t) = ap (λ b. is_proper t && b) (and-true (has_object (alone file) name))
  same-node scope (core.function name t) = ap (λ b. is_proper t && b) (and-true (function_fits (alone file) name t))
  same-node scope (core.call name t object args) = ap (λ b. is_proper t && b) (and-true (function_fits (alone file) name t))
  same-node scope (core.pointer_call object e t args) = and-true (is_proper t)
  same-node scope (core.convert t e) = refl
  same-node scope (core.from_void t e) = and-true (is_whole t && not (is_function t))
  same-node scope (core.temporary t e) = and-true (is_proper t)
  same-node scope (core.bind holder e) = and-true (is_sound_holder holder)
  same-node scope (core.declare i t e) = and-true (is_proper t)
  same-node scope e = refl

  same-tree : (scope : Scope) (e : Core) → tree_fits file scope.locals e ≡ is_sound_tree file scope e
  same-tree scope e = all-same (node_fits file scope.locals) (is_sound_node file scope) (same-node scope) (nodes e)

  same-body : (f : Function) → body_fits file f ≡ is_sound_body file f
  same-body f = ap (λ b. list_all is_proper (frame_types f) && b) (same-tree (body_of file f).scope f.body)

  same-object : (x : Static) → object_fits file x ≡ is_sound_object file x
  same-object x =
      ap (λ b. head_fits x && b) (same-tree (outside (alone file)) x.start)
      ∙ grouped (not (is_library x.name)) (not (is_reference x.type)) (not (binds x.start)) (is_proper x.type) (is_sound_tree file (outside (alone file)) x.start)

  pub same_file : file_fits file ≡ is_sound_file file
  same_file =
      ap (λ b. is_main (find stands_for_main file.functions) && b)
      (ap₂ (λ b c. b && c) (all-same (body_fits file) (is_sound_body file) same-body file.functions)
      (all-same (object_fits file) (is_sound_object file) same-object file.statics))
