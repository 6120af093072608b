-- The `main` that linking adds keeps rules V1 to V12 behind the items of the units.
use Rattle.std.proofs.Common.{◌≡◌, ℕ, Bool, true, false, not, ◌&&◌, cond, List, [], ◌∷◌, ◌++◌, Option, Some, None, option_map, map, refl, ap, sym, subst, ◌∙◌}
use Rattle.std.specs.Prelude.{bytes_eq, codes, find}
use Rattle.std.specs.List.{list_any}
use Rattle.std.proofs.lemmas.Bool.{and_parts, and_from, true≢false}
use Rattle.std.proofs.lemmas.Slice.Eq.{bytes_eq-Decides}
use Rattle.cc_whole.specs.declared.types.CType.TheVariants as ty
use Rattle.cc_whole.specs.declared.types.CSignature.{CSignature}
use Rattle.cc_whole.specs.declared.types.CVariableType.TheVariants as variable
use Rattle.cc_whole.specs.declared.types.CLocalType.TheVariants as «local»
use Rattle.cc_whole.specs.declared.expression.CPlace.TheVariants as place
use Rattle.cc_whole.specs.declared.expression.CExpression.TheVariants as tree
use Rattle.cc_whole.specs.declared.statement.CLocal.{CLocal}
use Rattle.cc_whole.specs.declared.statement.CStatement.{CStatement}
use Rattle.cc_whole.specs.declared.statement.CStatement.TheVariants as statement
use Rattle.cc_whole.specs.declared.statement.CCallee.TheVariants as callee
use Rattle.cc_whole.specs.declared.unit.CPrototype.{CPrototype}
use Rattle.cc_whole.specs.Build.{made_body}
use Rattle.cc_whole.specs.Plain.{named, load, by_name, Statement, call, give, Body, items_of, statement_of, in_order, body_of}
use Rattle.cc_whole.specs.Types.{same_type, same_signature, signature_of}
use Rattle.cc_whole.specs.Landmarks.{prototype_marks, locals_marks, statement_marks}
use Rattle.cc_whole.specs.Fault.{fine, holds, moved, checked_then, ◌before◌}
use Rattle.cc_whole.specs.Known.{Meant, function, object, Named, Known, lookup, is_in, is_main}
use Rattle.cc_whole.specs.Statements.{called_name, calls, with_locals, checked, checked_statements, checked_body}
use Rattle.cc_whole.specs.Valid.{agrees, own_type, has_type, checked_prototype, checked_items, inside}
use Rattle.cc_whole_laws.proofs.Views.{of-Name, of-Load, of-Call, of-Return, of-made}
use Rattle.cc_whole_link.specs.Placed.{Placed, its_name, old_name, defines_it, defines_named}
use Rattle.cc_whole_link.specs.Link.{is_the_main, calls_of, added_main}
use Rattle.cc_whole_linked_valid.proofs.Checks.{both_fine, moved_fine}
use Rattle.cc_whole_linked_valid.proofs.Same.{one_signature, Meets, both}
use Rattle.cc_whole_linked_valid.proofs.Words.{has_digit, other_word, word_other}
use Rattle.cc_whole_linked_valid.proofs.Items.{same_type_has}
use Rattle.cc_whole_linked_valid.proofs.Program.{meant_by, Each, Stands, passing, Behind}
use Rattle.cc_whole_linked_valid.proofs.Walk.{Placing}

abbrev main : List ℕ
main = codes "main"

abbrev inner_main : List ℕ
inner_main = codes "__main"

abbrev status : List ℕ
status = codes "status"

abbrev head : CPrototype
head = record { is_static = false; result = Some ty.Int; name = main; parameters = [] }

-- the types of `main` and of the functions that it calls
abbrev gives_int : CSignature
gives_int = record { result = Some ty.Int; parameters = [] }

abbrev gives_nothing : CSignature
gives_nothing = record { result = None; parameters = [] }

-- ---- names

turned : (s t : CSignature) → same_signature s t ≡ true → same_signature t s ≡ true
turned s t e = let same = one_signature s t e in subst (λ x. same_signature x s ≡ true) same (subst (λ x. same_signature s x ≡ true) (sym same) e)

main_agrees : (o : Option Meant) → ((m : Meant) → o ≡ Some m → has_type (own_type main) m ≡ true) → agrees o (function head) ≡ true
main_agrees None h = refl
main_agrees (Some (function q)) h = turned gives_int (signature_of q) (h (function q) refl)
main_agrees (Some (object t)) h = absurd (true≢false (sym (h (object t) refl)))

-- a function of this type has the name
record Calls (names : List Named) (name : List ℕ) (s : CSignature) : Type 0 where
  found : CPrototype
  looked : lookup names name ≡ Some (function found)
  signature : s ≡ signature_of found

calls_that : (names : List Named) (name : List ℕ) (s : CSignature) (o : Option Meant) → lookup names name ≡ o → {m : Meant} → Meets (Some m) o
    → ((n : Meant) → o ≡ Some n → has_type (Some s) n ≡ true) → Calls names name s
calls_that names name s _ e (both m (function q) t) h = record { found = q; looked = e; signature = one_signature s (signature_of q) (h (function q) refl) }
calls_that names name s _ e (both m (object t) u) h = absurd (true≢false (sym (h (object t) refl)))

-- ---- in the added `main`

module _ (names : List Named) where
  abbrev around : Known
  around = inside head (record { name = main; meant = function head } ∷ names)

  abbrev locals : List CLocal
  locals = record { ty = «local».Scalar ty.Int; name = status } ∷ []

  abbrev known : Known
  known = with_locals locals around

  abbrev AllFine : List CStatement → Type 0
  AllFine [] = Unit {0}
  AllFine (s ∷ ss) = (checked (statement_of s) known ≡ fine) × AllFine ss

  both_all : (ss ts : List CStatement) → AllFine ss → AllFine ts → AllFine (ss ++ ts)
  both_all [] ts a c = c
  both_all (s ∷ ss) ts a c = (a.0, both_all ss ts a.1 c)

  in_order_fine : (ss : List CStatement) → AllFine ss → checked_statements (in_order (map statement_of ss)) known ≡ fine
  in_order_fine [] a = refl
  in_order_fine (s ∷ ss) a =
      both_fine (checked (statement_of s) known) _ a.0 (moved_fine (statement_marks (statement_of s)) (checked_statements (in_order (map statement_of ss)) known) (in_order_fine ss a.1))

  -- ---- a call of a function without parameters and result

  abbrev meaning : Option Named → Option Meant
  meaning o = option_map (λ (n : Named). n.meant) o

  past : (a b : Bool) (s t : Named) (o : Option Named) → a ≡ false → b ≡ false → meaning (cond a (Some s) (cond b (Some t) o)) ≡ meaning o
  past a b s t o e f = ap (λ x. meaning (cond x (Some s) (cond b (Some t) o))) e ∙ ap (λ x. meaning (cond x (Some t) o)) f

  call_of : (name : List ℕ) (o : Option Meant) (q : CPrototype) → o ≡ Some (function q) → gives_nothing ≡ signature_of q → not (is_main name) ≡ true
      → moved 0 (checked_then (called_name o) (λ s. calls None s (by_name name) [] known)) ≡ fine
  call_of name o q e s h =
      subst (λ x. moved 0 (checked_then (called_name x) (λ s. calls None s (by_name name) [] known)) ≡ fine) (sym e)
      (subst (λ s. moved 0 (calls None s (by_name name) [] known) ≡ fine) s (ap (λ c. moved 0 (holds c 10 0 before fine)) h))

  call_fine : (name : List ℕ) → has_digit name ≡ true → Calls names name gives_nothing → checked (statement_of (statement.Call None (callee.Name name) [])) known ≡ fine
  call_fine name d c =
      let skipped : lookup known.names name ≡ lookup names name =
      past (bytes_eq status name) (bytes_eq main name) (record { name = status; meant = object (variable.Scalar ty.Int) }) (record { name = main; meant = function head })
      (find (λ (x : Named). bytes_eq x.name name) names) (word_other name d status refl) (word_other name d main refl) in
      ap (λ s. checked s known) (of-Call None (callee.Name name) [])
      ∙ call_of name (lookup known.names name) c.found (skipped ∙ c.looked) c.signature (ap not (other_word name d main refl))

  module _ (word : List ℕ) (typed : own_type word ≡ Some gives_nothing) where
    one_call : (p : Placed) → Stands names p → Placing p → p.is_static ≡ true → bytes_eq (old_name p) word ≡ true
        → checked (statement_of (statement.Call None (callee.Name (its_name p)) [])) known ≡ fine
    one_call p stands placing is same =
        let own : has_type (Some gives_nothing) (meant_by p) ≡ true =
        ap (λ o. has_type o (meant_by p)) (sym (ap own_type ((bytes_eq-Decides (old_name p) word).0 same) ∙ typed)) ∙ placing.own in
        call_fine (its_name p) (placing.longer is)
        (calls_that names (its_name p) gives_nothing (lookup names (its_name p)) refl stands (λ n e. go (lookup names (its_name p)) stands own n e))
      where
        go : {m : Meant} (o : Option Meant) → Meets (Some m) o → has_type (Some gives_nothing) m ≡ true → (n : Meant) → o ≡ Some n → has_type (Some gives_nothing) n ≡ true
        go _ (both m k s) t n e = let same : k ≡ n = cc in subst (λ x. has_type (Some gives_nothing) x ≡ true) same (sym (same_type_has (Some gives_nothing) s) ∙ t)

    all_calls : (ps : List Placed) → Each (Stands names) ps → Each Placing ps → AllFine (calls_of word ps)
    all_calls [] a c = tt
    all_calls (p ∷ ps) a c = go (all_calls ps a.1 c.1) (defines_it p) p.is_static refl (bytes_eq (old_name p) word) refl
      where
        go : AllFine (calls_of word ps) → (d s : Bool) → p.is_static ≡ s → (e : Bool) → bytes_eq (old_name p) word ≡ e
            → AllFine (cond (d && (s && e)) (statement.Call None (callee.Name (its_name p)) [] ∷ calls_of word ps) (calls_of word ps))
        go rest true true is true same = (one_call p a.0 c.0 is same, rest)
        go rest true true is false same = rest
        go rest true false is e same = rest
        go rest false s is e same = rest

  -- ---- `status = __main(); return status;`

  abbrev asking : Statement
  asking = call (Some (named status)) (by_name inner_main) []

  asked : (o : Option Meant) (q : CPrototype) → o ≡ Some (function q) → gives_int ≡ signature_of q
      → moved 1 (checked_then (called_name o) (λ s. calls (Some ty.Int) s (by_name inner_main) [] known)) ≡ fine
  unfolding same_type
  asked o q e s =
      subst (λ x. moved 1 (checked_then (called_name x) (λ s. calls (Some ty.Int) s (by_name inner_main) [] known)) ≡ fine) (sym e)
      (subst (λ s. moved 1 (calls (Some ty.Int) s (by_name inner_main) [] known) ≡ fine) s refl)

  given_fine : checked (give (Some (load (named status)))) known ≡ fine
  unfolding same_type
  given_fine = refl

  ending : Calls names inner_main gives_int
      → AllFine (statement.Call (Some (place.Name status)) (callee.Name inner_main) [] ∷ statement.Return (Some (tree.Load (place.Name status))) ∷ [])
  ending c = (
    ap (λ s. checked s known) (of-Call (Some (place.Name status)) (callee.Name inner_main) [] ∙ ap (λ p. call (Some p) (by_name inner_main) []) (of-Name status))
        ∙ asked (lookup names inner_main) c.found c.looked c.signature,
    (ap (λ s. checked s known) (of-Return (Some (tree.Load (place.Name status))) ∙ ap (λ x. give (Some x)) (of-Load (place.Name status) ∙ ap load (of-Name status))) ∙ given_fine, tt),
  )

-- ---- the item

module _ (all : List Placed) (names : List Named) (defined : List (List ℕ)) (h : Behind all names defined) (placings : Each Placing all)
    (none : list_any is_the_main all ≡ false) (there : list_any (defines_named inner_main) all ≡ true) where
  inner_calls : Calls names inner_main gives_int
  inner_calls =
      let one = passing (Stands names) (defines_named inner_main) all h.there there in
      let same : its_name one.one ≡ inner_main = (bytes_eq-Decides (its_name one.one) inner_main).0 (and_parts (defines_it one.one) (bytes_eq (its_name one.one) inner_main) one.passes).1 in
      calls_that names inner_main gives_int (lookup names inner_main) refl (subst (λ x. Meets (Some (meant_by one.one)) (lookup names x)) same one.holds) (h.own inner_main)

  prototype_fine : checked_prototype names defined true head ≡ fine
  unfolding same_type
  prototype_fine =
      ap (λ (c : Bool). (holds c 2 1 before fine) before fine) (and_from (agrees (lookup names main) (function head)) (not (is_in defined main)) (main_agrees (lookup names main) (h.own main)) (ap not (h.once main none)))

  abbrev statements : List CStatement
  statements =
      calls_of (codes "__hci") all ++ (calls_of (codes "__sti") all
      ++ (statement.Call (Some (place.Name status)) (callee.Name inner_main) [] ∷ statement.Return (Some (tree.Load (place.Name status))) ∷ []))

  abbrev whole : Body
  whole = body_of (made_body (record { ty = «local».Scalar ty.Int; name = status } ∷ []) statements)

  body_fine : checked_body whole (around names) ≡ fine
  body_fine =
      ap (λ b. checked_body b (around names)) (of-made (locals names) statements)
      ∙ moved_fine (locals_marks (locals names)) (checked_statements (in_order (map statement_of statements)) (known names))
      (in_order_fine names statements
      (both_all names (calls_of (codes "__hci") all) _ (all_calls names (codes "__hci") refl all h.there placings)
      (both_all names (calls_of (codes "__sti") all) _ (all_calls names (codes "__sti") refl all h.there placings) (ending names inner_calls))))

  pub added_fine : checked_items (items_of (added_main all ∷ [])) names defined ≡ fine
  added_fine =
      both_fine (checked_prototype names defined true head before moved (prototype_marks head) (checked_body whole (around names))) fine
      (both_fine (checked_prototype names defined true head) (moved (prototype_marks head) (checked_body whole (around names))) prototype_fine
      (moved_fine (prototype_marks head) (checked_body whole (around names)) body_fine))
      refl
