-- No type of a file is too large: each declaration and each function looks at the types that were made in it (9.1).
use Rattle.std.proofs.Common.{◌≡◌, ℕ, zero, suc, ◌+◌, ◌*◌, ◌<◌, ◌≤◌, nat_le, nat_lt, Bool, true, false, ◌&&◌, List, [], ◌∷◌, length, map, drop, Option, Some, None, slice_get, refl, sym, ap, subst, ◌∙◌, true≢false, arith, lit≤}
use Rattle.std.specs.List.{list_all}
use Rattle.std.proofs.lemmas.Bool.Decides.{nat_tests}
use Rattle.std.proofs.lemmas.List.{length-drop}
use Rattle.cf_base.specs.declared.kind.Kind.TheVariants as kind
use Rattle.cf_base.specs.declared.limit.Bound.TheVariants as bound
use Rattle.cf_types.specs.declared.ty.Ty.{Ty}
use Rattle.cf_types.specs.declared.ty.Ty.TheVariants as ty
use Rattle.cf_types.specs.Table.{Table, IsTable, NamesBelow}
use Rattle.cf_classes.specs.Layout.{Extent as Bytes, extent, size_step}
use Rattle.cf_classes.proofs.TypeSizes.{extent-at}
use Rattle.cf_convert.specs.Constness.{type_at}
use Rattle.cf_core.specs.declared.node.Core.{Core as Node}
use Rattle.cf_unit.specs.declared.class.FunctionDef.{FunctionDef, out-FunctionDef}
use Rattle.cf_unit.specs.declared.class.Member.TheFolds.{fold_out-FunctionDef, fold_out-Declaration}
use Rattle.cf_unit.specs.declared.declaration.Declaration.{Declaration, out-Declaration}
use Rattle.cf_unit.specs.declared.file.Item.{Item}
use Rattle.cf_unit.specs.declared.file.Item.TheVariants as item
use Rattle.cf_core_typed.proofs.Same.{and-left, and-right}
use Rattle.cf_elab.specs.Answer.{Answer, Made, Refused, Passed, Elab, onward, for_each, done}
use Rattle.cf_elab.specs.Bodies.{WrittenInit}
use Rattle.cf_elab.specs.Built as built
use Rattle.cf_elab.specs.Complete.{bytes_of, most_bytes, within, numbers_from, types_within}
use Rattle.cf_elab.specs.Declaration.{Declares, declares, declaration_row}
use Rattle.cf_elab.specs.Declarator.{Declared}
use Rattle.cf_elab.specs.Definition.{with_written_name}
use Rattle.cf_elab.specs.Env.{Env, Name, Extent}
use Rattle.cf_elab.specs.Expression.{declared}
use Rattle.cf_elab.specs.File as row
use Rattle.cf_elab.specs.File.{first_env, item_row, in_turn}
use Rattle.cf_elab.specs.Specifiers.{gathered}
use Rattle.cf_elab.specs.Statement.{Made as MadeOf}
use Rattle.cf_elab.specs.Trees as tree
use Rattle.cf_elab.specs.Trees.{MemberRow, SpecifierRow, ClassRow, FunctionRow, DeclarationRow, words, alias_of, init_of}
use Rattle.cf_elab_env.proofs.Growth.{here}
use Rattle.cf_elab_env.proofs.Sorts.{below_at}
use Rattle.cf_elab_valid.specs.Answers.{Good, Fine}
use Rattle.cf_elab_valid.specs.Constants.{all_of}
use Rattle.cf_elab_valid.specs.Scene.{Scene, Begins, Steps, Classless, Holds}
use Rattle.cf_elab_valid.specs.Statements.{is_outermost}
use Rattle.cf_elab_valid.proofs.Beginning.{first-classless, first-holds}
use Rattle.cf_elab_valid.proofs.FitRows.{Still, needed, no_defs}
use Rattle.cf_elab_valid.proofs.Named.{first-none}
use Rattle.cf_elab_valid.proofs.Options.{never_none}
use Rattle.cf_elab_valid.proofs.Ways.{begins-get, begins-through, When}
use Rattle.cf_elab_valid_files.proofs.StaticsLaws.Names.{Any}
use Rattle.cf_elab_valid_files.specs.Bodies.Laws.{ConstantsAreApart}
use Rattle.cf_elab_valid_files.proofs.BodiesLaws.Bodies.{specifier}
use Rattle.cf_elab_valid_files.specs.Functions.Laws.{IsFileEnd}
use Rattle.cf_elab_valid_files.specs.File.Laws.{item_fits}
use Rattle.cf_elab_valid_files.proofs.FileLaws.Items.{beginning-fine, item-fine, outermost-later}

le-told : (n m : ℕ) → nat_le n m ≡ true → n ≤ m
le-told n m h = grind (arith, nat_tests, h)

lt-told : (n m : ℕ) → nat_lt n m ≡ true → n < m
lt-told n m h = grind (arith, nat_tests, h)

not-lt-told : (n m : ℕ) → nat_lt n m ≡ false → m ≤ n
not-lt-told n m h = grind (arith, nat_tests, h)

-- ---- what is looked at

-- each number of a list passes the test
all-numbered : (test : ℕ → Bool) (xs : List Ty) (n t : ℕ) → list_all test (numbers_from n xs) ≡ true → n ≤ t → t < n + length xs → test t ≡ true
all-numbered test [] n t h from below = absurd (omega (arith, from, below))
all-numbered test (x ∷ xs) n t h from below = by (λ later before. all-numbered test xs (n + 1) t (and-right (test n) (list_all test (numbers_from (n + 1) xs)) h) later before) (nat_lt n t) refl
  where
    by : (n + 1 ≤ t → t < n + 1 + length xs → test t ≡ true) → (b : Bool) → nat_lt n t ≡ b → test t ≡ true
    by rest true is = let after = lt-told n t is in rest (omega (arith, after)) (omega (arith, below))
    by rest false is =
        let not_after = not-lt-told n t is in
        let same : n ≡ t = omega (arith, from, not_after) in subst (λ k. test k ≡ true) same (and-left (test n) (list_all test (numbers_from (n + 1) xs)) h)

-- every type from this number on is small
abbrev CheckedIn : {A : Type 0} → ℕ → Answer A → Type 0
CheckedIn count (Made a f) = (t : ℕ) → count ≤ t → t < length f.types.types → bytes_of f t ≤ most_bytes
CheckedIn count (Refused rule at) = Unit {0}
CheckedIn count (Passed bound most) = Unit {0}

checked-onward : {A B : Type 0} (count : ℕ) (r : Answer A) (go : A → Elab B) → ((a : A) (f : Env) → CheckedIn count (go a f)) → CheckedIn count (onward r go)
checked-onward count (Made a f) go next = next a f
checked-onward count (Refused rule at) go next = tt
checked-onward count (Passed bound most) go next = tt

-- behind the look, which is the last thing or followed by an answer
checked-then : {A : Type 0} (count : ℕ) (a : A) (e : Env) → CheckedIn count (onward (types_within count e) (λ _ f. Made a f))
checked-then count a e = by (list_all (λ t. nat_le (bytes_of e t) most_bytes) (numbers_from count (drop count e.types.types))) refl
  where
    by : (b : Bool) → list_all (λ t. nat_le (bytes_of e t) most_bytes) (numbers_from count (drop count e.types.types)) ≡ b → CheckedIn count (onward (within b bound.Size most_bytes e) (λ _ f. Made a f))
    by false is = tt
    by true is = λ t from below.
        let passed = all-numbered (λ t. nat_le (bytes_of e t) most_bytes) (drop count e.types.types) count t is from (omega (arith, from, below, length-drop count e.types.types)) in le-told (bytes_of e t) most_bytes passed

checked-last : (count : ℕ) (e : Env) → CheckedIn count (types_within count e)
checked-last count e = by (list_all (λ t. nat_le (bytes_of e t) most_bytes) (numbers_from count (drop count e.types.types))) (checked-then count (tt {0}) e)
  where
    by : (b : Bool) → CheckedIn count (onward (within b bound.Size most_bytes e) (λ _ f. Made (tt {0}) f)) → CheckedIn count (within b bound.Size most_bytes e)
    by false k = tt
    by true k = k

-- ---- declarations and functions

declared-checked : (at : ℕ) (specifiers : List SpecifierRow) (ds : List Declares) (e : Env) → CheckedIn (length e.types.types) (onward (tree.declaration_of at specifiers ds e) (λ _. done))
declared-checked at specifiers ds e =
    through (words (alias_of specifiers ds) specifiers e) _
    (λ ws f. through (ws.later f) _
    (λ u g. through (declaration_row at (gathered ws.list) ds g) _
    (λ rs k. last rs k)))
  where
    last : {A : Type 0} (rs : A) (k : Env) → CheckedIn (length e.types.types) (onward (onward (types_within (length e.types.types) k) (λ _ f. Made rs f)) (λ _. done))
    last rs k = by (list_all (λ t. nat_le (bytes_of k t) most_bytes) (numbers_from (length e.types.types) (drop (length e.types.types) k.types.types))) (checked-last (length e.types.types) k)
      where
        by : (b : Bool) → CheckedIn (length e.types.types) (within b bound.Size most_bytes k) → CheckedIn (length e.types.types) (onward (onward (within b bound.Size most_bytes k) (λ _ f. Made rs f)) (λ _. done))
        by false q = tt
        by true q = q

    through : {A B : Type 0} (r : Answer A) (go : A → Elab B) → ((a : A) (f : Env) → CheckedIn (length e.types.types) (onward (go a f) (λ _. done))) → CheckedIn (length e.types.types) (onward (onward r go) (λ _. done))
    through (Made a f) go next = next a f
    through (Refused rule at) go next = tt
    through (Passed bound most) go next = tt

defined-checked : (specifiers : List SpecifierRow) (at : ℕ) (d : Declared) (inits : List WrittenInit) (body : Elab Node) (e : Env) → CheckedIn (length e.types.types) (tree.definition_row specifiers at d inits body e)
defined-checked specifiers at d inits body e =
    checked-onward (length e.types.types) (words None specifiers e) _
    (λ ws f. checked-onward (length e.types.types) (ws.later f) _
    (λ u g. checked-onward (length e.types.types) (with_written_name (length e.types.types) (gathered ws.list) at d.shape inits body d.name g) _
    (λ v k. checked-last (length e.types.types) k)))

item-checked : (x : Item) → built.of_item x ≡ None → (e : Env) → CheckedIn (length e.types.types) (item_row x e)
item-checked (item.Function f) b e =
    let x = out-FunctionDef f in
    subst (λ (r : FunctionRow). CheckedIn (length e.types.types) (r.in_file e))
    (sym (fold_out-FunctionDef MemberRow SpecifierRow (Elab MadeOf) ClassRow FunctionRow DeclarationRow tree.member_step tree.specifier_step tree.statement_step tree.class_step tree.definition_step tree.declaration_step f))
    (defined-checked (map specifier x.specifiers) x.declarator_at (declared x.declarator) (map init_of x.initialisers) _ e)
item-checked (item.Declaration d) b e =
    let x = out-Declaration d in
    subst (λ (r : DeclarationRow). CheckedIn (length e.types.types) (onward (r.run e) (λ _. done)))
    (sym (fold_out-Declaration MemberRow SpecifierRow (Elab MadeOf) ClassRow FunctionRow DeclarationRow tree.member_step tree.specifier_step tree.statement_step tree.class_step tree.definition_step tree.declaration_step d))
    (declared-checked x.at (map specifier x.specifiers) (map declares x.declarators) e)
item-checked (item.Linkage l) b e = never_none l.at b

-- ---- sizes by the table of the end

step-same : (classes f g : ℕ → Bytes) (t : ℕ) (v : Ty) → NamesBelow t v → ((u : ℕ) → u < t → f u ≡ g u) → size_step classes f v ≡ size_step classes g v
step-same classes f g t (ty.Array u n) below each = ap (λ (e : Bytes). let x : Bytes = record { size = e.size * n; align = e.align } in x) (each u below)
step-same classes f g t (ty.Const u) below each = each u below
step-same classes f g t ty.Void below each = refl
step-same classes f g t (ty.Int k) below each = refl
step-same classes f g t (ty.Enum k) below each = refl
step-same classes f g t (ty.Class k) below each = refl
step-same classes f g t (ty.Ptr k) below each = refl
step-same classes f g t (ty.Ref k) below each = refl
step-same classes f g t (ty.Fun k) below each = refl
step-same classes f g t (ty.MemData k n) below each = refl
step-same classes f g t (ty.MemFun k n) below each = refl

-- the types behind the three library functions
abbrev begun : Table
begun = record {
  types = ty.Int kind.Int ∷ ty.Void ∷ ty.Fun 0 ∷ ty.Fun 1 ∷ ty.Fun 2 ∷ [];
  funs = record { result = 0; params = 0 ∷ []; is_const = false } ∷ record { result = 0; params = []; is_const = false } ∷ record { result = 1; params = 0 ∷ []; is_const = false } ∷ [];
}

begun-small : (t : ℕ) → t < 5 → (extent begun [] t).size ≤ most_bytes
begun-small zero h = lit≤ tt
begun-small (suc zero) h = lit≤ tt
begun-small (suc (suc zero)) h = lit≤ tt
begun-small (suc (suc (suc zero))) h = lit≤ tt
begun-small (suc (suc (suc (suc zero)))) h = lit≤ tt
begun-small (suc (suc (suc (suc (suc t))))) h = absurd (omega (arith, h))

module _ (T : Table) (well : IsTable T) where
  -- a type has the size that it has at the end
  extent-early : (types : Table) → Begins types.types T.types → (n t : ℕ) → t < n → t < length types.types → extent types [] t ≡ extent T [] t
  extent-early types b zero t before i = absurd (omega arith)
  extent-early types b (suc n) t before i =
      let v = type_at types t in
      let now : slice_get types.types t ≡ Some v = here types t i in
      let at_end = begins-get types.types T.types t v b now in
      let below = below_at T t v well at_end in
      extent-at types t v now below
      ∙ step-same _ (extent types []) (extent T []) t v below (λ u lt. extent-early types b n u (omega arith) (omega arith))
      ∙ sym (extent-at T t v at_end below)

  -- each type so far is small
  abbrev Small : Table → Type 0
  Small types = Begins types.types T.types → (t : ℕ) → t < length types.types → (extent T [] t).size ≤ most_bytes

  abbrev pub SmallIn : {A : Type 0} → Answer A → Type 0
  SmallIn (Made a f) = Small f.types
  SmallIn (Refused rule at) = Unit {0}
  SmallIn (Passed bound most) = Unit {0}

  small-begun : Small begun
  small-begun b t k = subst (λ (x : Bytes). x.size ≤ most_bytes) (extent-early begun b (t + 1) t (omega arith) k) (begun-small t k)

  beginning-small : (sizes : Extent) (names : List Name) → SmallIn (row.beginning (first_env sizes names))
  beginning-small sizes names = small-begun

  module _ (s : Scene) (end : IsFileEnd s) where
    -- what was there is small, and so is what was made
    combined : (e : Env) (r : Answer (Unit {0})) → Fine s (Any {A = Unit {0}}) e r → CheckedIn (length e.types.types) r → Small e.types → SmallIn r
    combined e (Refused rule at) g k small = tt
    combined e (Passed bound most) g k small = tt
    combined e (Made u f) g k small = λ b t inside. by b t inside (nat_lt t (length e.types.types)) refl
      where
        by : Begins f.types.types T.types → (t : ℕ) → t < length f.types.types → (q : Bool) → nat_lt t (length e.types.types) ≡ q → (extent T [] t).size ≤ most_bytes
        by b t inside true is = small (begins-through e.types.types f.types.types T.types g.steps.types b) t (lt-told t (length e.types.types) is)
        by b t inside false is =
            let made : bytes_of f t ≤ most_bytes = k t (not-lt-told t (length e.types.types) is) inside in
            let same : bytes_of f t ≡ (extent T [] t).size = ap (λ ds. (extent f.types ds t).size) (no_defs f g.classless) ∙ ap (λ (x : Bytes). x.size) (extent-early f.types b (t + 1) t (omega arith) inside) in
            subst (λ n. n ≤ most_bytes) same made

    behind : (e : Env) (r : Answer (Unit {0})) (go : Elab (Unit {0})) → Fine s (Any {A = Unit {0}}) e r → SmallIn r → ((f : Env) → Steps e f → Classless f → When s f (Holds s f) → Small f.types → SmallIn (go f)) → SmallIn (onward r (λ _. go))
    behind e (Made u f) go g k next = next f g.steps g.classless g.holds k
    behind e (Refused rule at) go g k next = tt
    behind e (Passed bound most) go g k next = tt

    items-small : ConstantsAreApart → (xs : List Item) → built.first_of (map built.of_item xs) ≡ None → all_of (map item_fits xs) ≡ true → (e : Env) → is_outermost e.scopes.outer ≡ true → Classless e → When s e (Holds s e) → Small e.types
        → SmallIn (for_each (λ (i : Elab (Unit {0})). i) (map item_row xs) e)
    items-small apart [] b fits e o c h small = small
    items-small apart (x ∷ xs) b fits e o c h small =
        let split = first-none (built.of_item x) (built.first_of (map built.of_item xs)) b in
        let fine = item-fine s end apart x split.0 (and-left (item_fits x) (all_of (map item_fits xs)) fits) e o c h in
        behind e (item_row x e) (for_each (λ (i : Elab (Unit {0})). i) (map item_row xs)) fine (combined e (item_row x e) fine (item-checked x split.0 e) small)
        (λ f g cf hf k. items-small apart xs split.1 (and-right (item_fits x) (all_of (map item_fits xs)) fits) f (outermost-later s end e f g o) cf hf k)

    -- behind a check
    checks-small : (e : Env) (r : Answer (Unit {0})) → Still e r → Small e.types → SmallIn r
    checks-small e (Made u f) same small = subst (λ (x : Env). Small x.types) (sym same) small
    checks-small e (Refused rule at) same small = tt
    checks-small e (Passed bound most) same small = tt

    last-small : (r : Answer (Unit {0})) → SmallIn r → SmallIn (onward r (λ _. row.all_defined))
    last-small (Made u f) small = checks-small f (row.all_defined f) (needed f _ 48 _) small
    last-small (Refused rule at) small = tt
    last-small (Passed bound most) small = tt

    pub turn-small : ConstantsAreApart → (xs : List Item) → built.first_of (map built.of_item xs) ≡ None → all_of (map item_fits xs) ≡ true → s.result ≡ 0 → (sizes : Extent) (names : List Name) → SmallIn (in_turn (map item_row xs) (first_env sizes names))
    turn-small apart xs b fits zero_result sizes names =
        let e = first_env sizes names in
        last-small (onward (row.beginning e) (λ _. for_each (λ (i : Elab (Unit {0})). i) (map item_row xs)))
        (behind e (row.beginning e) (for_each (λ (i : Elab (Unit {0})). i) (map item_row xs)) (beginning-fine s end e (first-classless sizes names) (λ w. first-holds s zero_result sizes names)) (beginning-small sizes names)
        (λ f g cf hf k. items-small apart xs b fits f (outermost-later s end e f g refl) cf hf k))
