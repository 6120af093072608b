-- Each variable has one block.
use Rattle.std.proofs.Common.{◌≡◌, ℕ, suc, ◌+◌, List, [], ◌∷◌, length, Option, Some, None, Result, Ok, Err, refl, ap, ◌∙◌, arith}
use Rattle.cc_whole.specs.declared.unit.CPair.{CPair}
use Rattle.cc_whole.specs.declared.unit.CVariable.{CVariable}
use Rattle.cc_whole.specs.declared.unit.CInitialiser.{CInitialiser}
use Rattle.cc_whole.specs.declared.unit.CInitialiser.TheVariants as initialiser
use Rattle.cc_whole_memory.specs.declared.value.Pointer.TheVariants as pointer
use Rattle.cc_whole_memory.specs.declared.value.Value.{Value}
use Rattle.cc_whole_memory.specs.declared.value.Value.TheVariants as value
use Rattle.cc_whole_memory.specs.declared.store.Storage.TheVariants as storage
use Rattle.cc_whole_memory.specs.Values.{size_of}
use Rattle.cc_whole_memory.specs.Cells.{put}
use Rattle.cc_whole_memory.specs.Blocks.{Memory, Place, born, reached, on_ok, with_cells}
use Rattle.cc_whole_mean.specs.Types.{constant_value, variable_size}
use Rattle.cc_whole_mean.specs.Scope.{Scope}
use Rattle.cc_whole_mean.specs.Start.{kept, put_static, put_text, put_pairs, pair_function, initialised, laid_out}
use Rattle.cc_whole_start.specs.Walk.{char_of, put_pair}

pub put_static-next : (b q : ℕ) (v : Value) (m : Memory) → (put_static b q v m).next ≡ m.next
put_static-next b q v m = by (reached (pointer.At b q) (size_of v) m)
  where
    by : (r : Result Place ℕ) → (kept m (on_ok r (λ at. Ok (with_cells at (put v at.offset at.block.cells) m)))).next ≡ m.next
    by (Ok at) = refl
    by (Err act) = refl

pub put_text-next : (bytes : List ℕ) (b q : ℕ) (m : Memory) → (put_text bytes b q m).next ≡ m.next
put_text-next [] b q m = refl
put_text-next (byte ∷ rest) b q m = put_text-next rest b (suc q) (put_static b q (char_of byte) m) ∙ put_static-next b q (char_of byte) m

pub put_pairs-next : (names : Scope) (pairs : List CPair) (b q : ℕ) (m : Memory) → (put_pairs names pairs b q m).next ≡ m.next
put_pairs-next names [] b q m = refl
put_pairs-next names (x ∷ rest) b q m =
    put_pairs-next names rest b (q + 8) (put_pair names x b q m)
    ∙ put_static-next b (q + 4) (value.Function (pair_function names x.function)) (put_static b q (constant_value x.number) m)
    ∙ put_static-next b q (constant_value x.number) m

pub initialised-next : (names : Scope) (start : Option CInitialiser) (b : ℕ) (m : Memory) → (initialised names start b m).next ≡ m.next
initialised-next names None b m = refl
initialised-next names (Some (initialiser.Text bytes)) b m = put_text-next bytes b 0 m
initialised-next names (Some (initialiser.Pairs pairs)) b m = put_pairs-next names pairs b 0 m

-- each variable has one block
pub laid_out-next : (names : Scope) (vs : List CVariable) (m : Memory) → (laid_out names vs m).next ≡ m.next + length vs
laid_out-next names [] m = omega arith
laid_out-next names (x ∷ rest) m =
    laid_out-next names rest (initialised names x.initialiser m.next (born storage.Static (variable_size x.ty) m))
    ∙ ap (λ n. n + length rest) (initialised-next names x.initialiser m.next (born storage.Static (variable_size x.ty) m))
    ∙ (let h : suc m.next + length rest ≡ m.next + suc (length rest) = omega arith in h)
