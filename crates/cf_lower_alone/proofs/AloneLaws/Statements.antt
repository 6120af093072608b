-- The C statements of plain statements with other names for functions and objects.
use Rattle.std.proofs.Common.{◌≡◌, ℕ, zero, suc, ◌+◌, ◌*◌, List, [], ◌∷◌, ◌++◌, map, refl, ap, sym, ◌∙◌, inl}
use Rattle.std.specs.Prelude.{Option, Some, None, pos}
use Rattle.std.proofs.lemmas.List.{map-append}
use Rattle.cf_base.specs.declared.kind.Kind.{Kind}
use Rattle.cf_base.specs.declared.kind.Kind.TheVariants.{Int}
use Rattle.cf_base.specs.declared.arith.Arith.TheVariants as op
use Rattle.cf_base.specs.Integers.{convert as converted_to}
use Rattle.cf_core.specs.Types.{Name, SourceType, void, array, const, result as result_type}
use Rattle.cf_core.specs.Classes.{Class}
use Rattle.cf_core.specs.Size.{size}
use Rattle.cf_lower_layout.specs.Sorts.{Sort, number, address, code, sort_of}
use Rattle.cf_plain.specs.Plain as plain
use Rattle.cf_plain.specs.Plain.{Register, Action, Plain, Plains, act, set, branch, loop, switch, case_label, default_label, leave, continue, give, parts, nothing, more}
use Rattle.cf_plain.specs.Joined.{renamed_action, renamed, renamed_all}
use Rattle.cf_plain.specs.Named.{actions, all_actions}
use Rattle.cc_whole.specs.declared.types.CConstant.TheVariants as constants
use Rattle.cc_whole.specs.Plain as c
use Rattle.cc_whole.specs.Plain.{Expression, Statement, SwitchItems, named, pointed, constant, load, Callee, by_name, by_pointer, body, in_order}
use Rattle.cc_whole_link.specs.Rename.{Renaming}
use Rattle.cc_whole_closed.proofs.Plains.{expression_with, expressions_with, callee_with, statement_with, statements_with, switch_with, body_with}
use Rattle.cc_whole_sections.specs.Sections.{Every}
use Rattle.cc_whole_sections.proofs.Names.{in-left, in-right}
use Rattle.cf_lower.specs.Kept.{Kept, holds, argument, Keeping, local_kept, kept_by, after, untouched}
use Rattle.cf_lower.specs.Written.{if_scalar, c_type, int_constant, local_name, flag_name, result_name, register_name}
use Rattle.cf_lower.specs.Expressions.{zero as nought, constant_of, integer_in, address_in, value_in, as_value, as_stored, value}
use Rattle.cf_lower.specs.Statements.{Inside, block, set_register, put, stored, stored_in, first_in, behind, for_each, zeros, zeros_in, put_bytes, kind_in, bytes_in, passed, signature, called, through, done, put_in, kept, no_value, given, flag_set, if_flag, in_stepped, in_loop, in_switch, stated_all, lowered, all_lowered, items}
use Rattle.cf_lower_alone.proofs.AloneLaws.After.{kept-same, untouched-same, after-same}
use Rattle.cf_lower_alone.proofs.AloneLaws.Values.{KeepsOwn, Goes, Stays, register-stays, held-stays, binary-stays, value-with}

module _ (r : Renaming) (own : KeepsOwn r) where
  abbrev pub all_with : List Statement → List Statement
  all_with ss = map (λ s. statement_with s r) ss

  abbrev pub AllStay : List Statement → Type 0
  AllStay ss = all_with ss ≡ ss

  abbrev Stay : Expression → Type 0
  Stay e = Stays r own e

  -- ---- lists

  pub in-order-with : (ss : List Statement) → statements_with (in_order ss) r ≡ in_order (all_with ss)
  in-order-with [] = refl
  in-order-with (s ∷ ss) = ap (c.followed (statement_with s r)) (in-order-with ss)

  stated-with : (ss : List Statement) (its : SwitchItems) → switch_with (stated_all ss its) r ≡ stated_all (all_with ss) (switch_with its r)
  stated-with [] its = refl
  stated-with (s ∷ ss) its = ap (c.stated (statement_with s r)) (stated-with ss its)

  block-with : (ss ts : List Statement) → all_with ss ≡ ts → body_with (block ss) r ≡ block ts
  block-with ss ts e = ap (body []) (in-order-with ss ∙ ap in_order e)

  pub append-with : (xs ys us vs : List Statement) → all_with xs ≡ us → all_with ys ≡ vs → all_with (xs ++ ys) ≡ us ++ vs
  append-with xs ys us vs e h = map-append (λ s. statement_with s r) xs ys ∙ ap (λ l. l ++ all_with ys) e ∙ ap (λ l. us ++ l) h

  one-with : (s t : Statement) (ss ts : List Statement) → statement_with s r ≡ t → all_with ss ≡ ts → all_with (s ∷ ss) ≡ t ∷ ts
  one-with s t ss ts e h = ap (λ x. x ∷ all_with ss) e ∙ ap (λ l. t ∷ l) h

  -- ---- stores

  put-stays : (s : Sort) (p e : Expression) → Stay p → Stay e → statement_with (put s p e) r ≡ put s p e
  put-stays s p e h k =
      ap (λ x. c.assign (pointed (c_type s) x) (as_stored s (expression_with e r))) h ∙ ap (λ x. c.assign (pointed (c_type s) p) (as_stored s x)) k

  pub put-with : (s : Sort) (p p' e e' : Expression) → expression_with p r ≡ p' → expression_with e r ≡ e' → statement_with (put s p e) r ≡ put s p' e'
  put-with s p p' e e' h k =
      ap (λ x. c.assign (pointed (c_type s) x) (as_stored s (expression_with e r))) h ∙ ap (λ x. c.assign (pointed (c_type s) p') (as_stored s x)) k

  address-stays : (p : Register) → Stay (address_in p)
  address-stays p = register-stays r own (address void) p

  stored-stay : (o : Option Sort) (p : Register) (e : Expression) → Stay e → AllStay (stored o p e)
  stored-stay None p e h = refl
  stored-stay (Some s) p e h = ap (λ x. x ∷ []) (put-stays s (address_in p) e (address-stays p) h)

  stored-in-stay : (x : Kept) (p : Register) (e : Expression) → Stay e → AllStay (stored_in x p e)
  stored-in-stay (holds (address t)) p e h = stored-stay (sort_of t) p e h
  stored-in-stay x p e h = refl

  first-stay : (x : Kept) (p : Register) (e : Expression) → Stay e → AllStay (first_in x p e)
  first-stay (argument i t) p e h = go (sort_of t)
    where
      go : (o : Option Sort) → AllStay (if_scalar o [] (λ s. c.assign (named (local_name i)) (as_stored s e) ∷ []))
      go None = refl
      go (Some s) = ap (λ n. c.assign (named n) (as_stored s (expression_with e r)) ∷ []) (own.local i) ∙ ap (λ x. c.assign (named (local_name i)) (as_stored s x) ∷ []) h
  first-stay x p e h = stored-in-stay x p e h

  behind-stays : (p : Expression) (n : ℕ) → Stay p → Stay (behind p n)
  behind-stays p n h = binary-stays r own op.Add p (constant (int_constant n)) h refl

  for-each-stay : (i n : ℕ) (f : ℕ → List Statement) → ((j : ℕ) → AllStay (f j)) → AllStay (for_each i n f)
  for-each-stay i zero f h = refl
  for-each-stay i (suc n) f h = append-with (f i) (for_each (suc i) n f) (f i) (for_each (suc i) n f) (h i) (for-each-stay (suc i) n f h)

  zeros-stay : (classes : List Class) (t : SourceType) (p : Expression) (at : ℕ) → Stay p → AllStay (zeros classes t p at)
  zeros-stay classes (array t n) p at h =
      for-each-stay 0 n (λ i. zeros classes t p (at + i * size classes t)) (λ j. zeros-stay classes t p (at + j * size classes t) h)
  zeros-stay classes (const t) p at h = zeros-stay classes t p at h
  zeros-stay classes t p at h = by (sort_of t)
    where
      by : (o : Option Sort) → AllStay (if_scalar o [] (λ s. put s (behind p at) nought ∷ []))
      by None = refl
      by (Some s) = ap (λ x. x ∷ []) (put-stays s (behind p at) nought (behind-stays p at h) refl)

  zeros-in-stay : (classes : List Class) (x : Kept) (p : Register) → AllStay (zeros_in classes x p)
  zeros-in-stay classes (holds (address t)) p = zeros-stay classes t (address_in p) 0 (address-stays p)
  zeros-in-stay classes x p = refl

  pub put-bytes-with : (k : Kind) (p p' : Expression) (i : ℕ) (bs : List ℕ) → expression_with p r ≡ p' → all_with (put_bytes k p i bs) ≡ put_bytes k p' i bs
  put-bytes-with k p p' i [] h = refl
  put-bytes-with k p p' i (b ∷ bs) h =
      let value : Expression = constant_of (converted_to k (pos b)) in
      one-with (put (number k) (behind p i) value) (put (number k) (behind p' i) value) (put_bytes k p (suc i) bs) (put_bytes k p' (suc i) bs)
      (put-with (number k) (behind p i) (behind p' i) value value (ap (λ x. behind x i) h) refl) (put-bytes-with k p p' (suc i) bs h)

  bytes-stay : (classes : List Class) (x : Kept) (p : Register) (bs : List ℕ) → AllStay (bytes_in classes x p bs)
  bytes-stay classes x p bs =
      append-with (zeros_in classes x p) (put_bytes (kind_in x) (address_in p) 0 bs) (zeros_in classes x p) (put_bytes (kind_in x) (address_in p) 0 bs)
      (zeros-in-stay classes x p) (put-bytes-with (kind_in x) (address_in p) (address_in p) 0 bs (address-stays p))

  -- ---- calls

  passed-stay : (is : List ℕ) → expressions_with (passed is) r ≡ passed is
  passed-stay [] = refl
  passed-stay (i ∷ is) = ap (λ n. load (named n) ∷ expressions_with (passed is) r) (own.local i) ∙ ap (λ l. load (named (local_name i)) ∷ l) (passed-stay is)

  set-with : (s : Sort) (p : Register) (e e' : Expression) → expression_with e r ≡ e' → statement_with (set_register s p e) r ≡ set_register s p e'
  set-with s p e e' h = ap (λ n. c.assign (named n) (expression_with e r)) (own.register s p) ∙ ap (c.assign (named (register_name s p))) h

  call-none : (f f' : Callee) (is : List ℕ) → callee_with f r ≡ f' → statement_with (c.call None f (passed is)) r ≡ c.call None f' (passed is)
  call-none f f' is e = ap (λ x. c.call None x (expressions_with (passed is) r)) e ∙ ap (c.call None f') (passed-stay is)

  called-with : (f f' : Callee) (t : SourceType) (is : List ℕ) (o : Option Register) → callee_with f r ≡ f' → all_with (called f t is o) ≡ called f' t is o
  called-with f f' t is None e = ap (λ x. x ∷ []) (call-none f f' is e)
  called-with f f' t is (Some p) e = go (sort_of (result_type t))
    where
      go : (o : Option Sort) → all_with (if_scalar o (c.call None f (passed is) ∷ []) (λ s.
          c.call (Some (named (result_name (c_type s)))) f (passed is) ∷ set_register s p (as_value s (load (named (result_name (c_type s))))) ∷ []))
          ≡ if_scalar o (c.call None f' (passed is) ∷ []) (λ s.
          c.call (Some (named (result_name (c_type s)))) f' (passed is) ∷ set_register s p (as_value s (load (named (result_name (c_type s))))) ∷ [])
      go None = ap (λ x. x ∷ []) (call-none f f' is e)
      go (Some s) =
          let name : Name = result_name (c_type s) in
          one-with (c.call (Some (named name)) f (passed is)) (c.call (Some (named name)) f' (passed is)) (set_register s p (as_value s (load (named name))) ∷ [])
          (set_register s p (as_value s (load (named name))) ∷ [])
          (ap (λ n. c.call (Some (named n)) (callee_with f r) (expressions_with (passed is) r)) (own.result (c_type s))
          ∙ ap (λ x. c.call (Some (named name)) x (expressions_with (passed is) r)) e ∙ ap (c.call (Some (named name)) f') (passed-stay is))
          (ap (λ x. x ∷ [])
          (set-with s p (as_value s (load (named name))) (as_value s (load (named name))) (ap (λ n. as_value s (load (named n))) (own.result (c_type s)))))

  through-stays : (p : Register) (t : SourceType) → callee_with (through p t) r ≡ through p t
  through-stays p t = ap (by_pointer (signature t)) (register-stays r own (code t) p)

  -- ---- results and flags

  flag-stays : (d n : ℕ) → statement_with (flag_set d n) r ≡ flag_set d n
  flag-stays d n = ap (λ x. c.assign (named x) (constant (int_constant n))) (own.flag d)

  if-with : (d : ℕ) (ss ts : List Statement) → all_with ss ≡ ts → statement_with (if_flag d ss) r ≡ if_flag d ts
  if-with d ss ts e =
      ap (λ n. c.choose (load (named n)) (body_with (block ss) r) (block [])) (own.flag d) ∙ ap (λ b. c.choose (load (named (flag_name d))) b (block [])) (block-with ss ts e)

  pub none-stay : (t : SourceType) → AllStay (no_value t)
  none-stay t = go (sort_of t)
    where
      go : (o : Option Sort) → AllStay (if_scalar o (c.give None ∷ []) (λ s. c.give (Some (as_stored s nought)) ∷ []))
      go None = refl
      go (Some s) = refl

  given-stay : (t : SourceType) (e : Expression) → Stay e → AllStay (given t e)
  given-stay t e h = go (sort_of t)
    where
      go : (o : Option Sort) → AllStay (if_scalar o (c.give None ∷ []) (λ s. c.give (Some (as_stored s e)) ∷ []))
      go None = refl
      go (Some s) = ap (λ x. c.give (Some (as_stored s x)) ∷ []) h

  -- ---- statements, in a function of another name

  module _ (q : Name → Name) (f' : Name) where
    abbrev pub named_so : Inside → Inside
    named_so x = record x { function = f' }

    abbrev GoesIn : Inside → Action → Type 0
    GoesIn x a = Goes r q x.function f' a

    put-in-with : (x : Inside) (o : Option Sort) (p : Register) (e e' : Expression) → expression_with e r ≡ e' → all_with (put_in x o p e) ≡ put_in (named_so x) o p e'
    put-in-with x None p e e' h = refl
    put-in-with x (Some s) p e e' h = ap (λ y. y ∷ []) (set-with s p e e' h)

    done-with : (x : Inside) (g : Keeping) (a : Action) → GoesIn x a → all_with (done x g a) ≡ done (named_so x) g (renamed_action q a)
    done-with x g (plain.store p s) e = stored-in-stay (g p) p (value_in g s) (held-stays r own g s)
    done-with x g (plain.first p s) e = first-stay (g p) p (value_in g s) (held-stays r own g s)
    done-with x g (plain.zeros p) e = zeros-in-stay x.classes (g p) p
    done-with x g (plain.bytes p bs) e = bytes-stay x.classes (g p) p bs
    done-with x g (plain.call n t object is into) e = called-with (by_name n) (by_name (q n)) t is None (ap by_name e)
    done-with x g (plain.pointer_call object p t is into) e = called-with (through p t) (through p t) t is None (through-stays p t)
    done-with x g a e = refl

    any-kept : (x : Inside) (g : Keeping) (p : Register) (a : Action) → GoesIn x a
        → all_with (put_in x (local_kept (kept_by x.locals g a)) p (value x.classes x.function x.locals g a))
        ≡ put_in (named_so x) (local_kept (kept_by x.locals g (renamed_action q a))) p (value x.classes f' x.locals g (renamed_action q a))
    any-kept x g p a e =
        let there : Expression = value x.classes f' x.locals g (renamed_action q a) in
        put-in-with x (local_kept (kept_by x.locals g a)) p (value x.classes x.function x.locals g a) there
        (value-with r own q x.classes x.function f' x.locals g a e)
        ∙ ap (λ k. put_in (named_so x) (local_kept k) p there) (sym (kept-same q x.locals g a))

    kept-with : (x : Inside) (g : Keeping) (p : Register) (a : Action) → GoesIn x a → all_with (kept x g p a) ≡ kept (named_so x) g p (renamed_action q a)
    kept-with x g p (plain.call n t object is into) e = called-with (by_name n) (by_name (q n)) t is (Some p) (ap by_name e)
    kept-with x g p (plain.pointer_call object s t is into) e = called-with (through s t) (through s t) t is (Some p) (through-stays s t)
    kept-with x g p (plain.static_object n t) e = any-kept x g p (plain.static_object n t) e
    kept-with x g p (plain.function n t) e = any-kept x g p (plain.function n t) e
    kept-with x g p (plain.function_pointer t) e = any-kept x g p (plain.function_pointer t) e
    kept-with x g p (plain.is_reached n) e = any-kept x g p (plain.is_reached n) e
    kept-with x g p (plain.reach n) e = any-kept x g p (plain.reach n) e
    kept-with x g p (plain.finish_static n) e = any-kept x g p (plain.finish_static n) e
    kept-with x g p (plain.build f t s is) e = any-kept x g p (plain.build f t s is) e
    kept-with x g p a e = any-kept x g p a e

    -- what leaves a loop or switch, and what goes on
    pub record WaysStay (x : Inside) : Type 0 where
      pub leaving : AllStay x.leaving
      pub going_on : AllStay x.going_on

    stepped-stays : (x : Inside) → WaysStay (in_stepped x)
    stepped-stays x = record { leaving = ap (λ s. s ∷ c.leave ∷ []) (flag-stays x.depth 1); going_on = refl }

    loop-stays : (x : Inside) → WaysStay (in_loop x)
    loop-stays x = record { leaving = refl; going_on = refl }

    switch-stays : (x : Inside) → WaysStay (in_switch x)
    switch-stays x = record { leaving = refl; going_on = ap (λ s. s ∷ c.leave ∷ []) (flag-stays x.depth 1) }

    integer-stays : (p : Register) → Stay (integer_in p)
    integer-stays p = register-stays r own (number Int) p

    abbrev GoAll : Inside → List Action → Type 0
    GoAll x acts = Every (GoesIn x) acts

    go-left : (x : Inside) (acts bs : List Action) → GoAll x (acts ++ bs) → GoAll x acts
    go-left x acts bs h a k = h a (in-left a acts bs k)

    go-right : (x : Inside) (acts bs : List Action) → GoAll x (acts ++ bs) → GoAll x bs
    go-right x acts bs h a k = h a (in-right a acts bs k)

    stated-on : (s : Plain) (ss : Plains) (x : Inside) (g k : Keeping) → all_with (lowered s x k) ≡ lowered (renamed q s) (named_so x) k
        → switch_with (items ss x g (after x.locals s k)) r ≡ items (renamed_all q ss) (named_so x) g (after x.locals s k)
        → switch_with (stated_all (lowered s x k) (items ss x g (after x.locals s k))) r
        ≡ stated_all (lowered (renamed q s) (named_so x) k) (items (renamed_all q ss) (named_so x) g (after x.locals (renamed q s) k))
    stated-on s ss x g k one rest =
        stated-with (lowered s x k) (items ss x g (after x.locals s k))
        ∙ ap (λ l. stated_all l (switch_with (items ss x g (after x.locals s k)) r)) one
        ∙ ap (stated_all (lowered (renamed q s) (named_so x) k)) (rest ∙ ap (items (renamed_all q ss) (named_so x) g) (sym (after-same q x.locals s k)))

    mutual
      pub lowered-with : (s : Plain) (x : Inside) (g : Keeping) → WaysStay x → GoAll x (actions s) → all_with (lowered s x g) ≡ lowered (renamed q s) (named_so x) g
      lowered-with (act a) x g w h = done-with x g a (h a (inl refl))
      lowered-with (set p a) x g w h = kept-with x g p a (h a (inl refl))
      lowered-with (branch p ss ts) x g w h =
          let A : List Statement = all_lowered ss x g in
          let B : List Statement = all_lowered ts x g in
          let A' : List Statement = all_lowered (renamed_all q ss) (named_so x) g in
          let B' : List Statement = all_lowered (renamed_all q ts) (named_so x) g in
          ap (λ e. c.choose e (body_with (block A) r) (body_with (block B) r) ∷ []) (integer-stays p)
          ∙ ap (λ b. c.choose (integer_in p) b (body_with (block B) r) ∷ [])
          (block-with A A' (all-lowered-with ss x g w (go-left x (all_actions ss) (all_actions ts) h)))
          ∙ ap (λ b. c.choose (integer_in p) (block A') b ∷ [])
          (block-with B B' (all-lowered-with ts x g w (go-right x (all_actions ss) (all_actions ts) h)))
      lowered-with (loop ss nothing) x g w h =
          let k : Keeping = untouched x.locals g ss in
          let A : List Statement = all_lowered ss (in_loop x) k in
          ap (λ b. c.loop b ∷ [])
          (block-with A (all_lowered (renamed_all q ss) (in_loop (named_so x)) (untouched x.locals g (renamed_all q ss)))
          (all-lowered-with ss (in_loop x) k (loop-stays x) (go-left x (all_actions ss) [] h)
          ∙ ap (all_lowered (renamed_all q ss) (in_loop (named_so x))) (sym (untouched-same q x.locals g ss))))
      lowered-with (loop ss ts) x g w h =
          let k : Keeping = untouched x.locals (untouched x.locals g ss) ts in
          let k' : Keeping = untouched x.locals (untouched x.locals g (renamed_all q ss)) (renamed_all q ts) in
          let same : k ≡ k' = sym (ap (λ j. untouched x.locals j (renamed_all q ts)) (untouched-same q x.locals g ss)
          ∙ untouched-same q x.locals (untouched x.locals g ss) ts) in
          let A : List Statement = all_lowered ss (in_stepped x) k in
          let A' : List Statement = all_lowered (renamed_all q ss) (in_stepped (named_so x)) k' in
          let B : List Statement = all_lowered ts (in_loop x) k in
          let B' : List Statement = all_lowered (renamed_all q ts) (in_loop (named_so x)) k' in
          let first : all_with A ≡ A' = all-lowered-with ss (in_stepped x) k (stepped-stays x) (go-left x (all_actions ss) (all_actions ts) h)
          ∙ ap (all_lowered (renamed_all q ss) (in_stepped (named_so x))) same in
          let second : all_with B ≡ B' = all-lowered-with ts (in_loop x) k (loop-stays x) (go-right x (all_actions ss) (all_actions ts) h)
          ∙ ap (all_lowered (renamed_all q ts) (in_loop (named_so x))) same in
          ap (λ b. c.loop b ∷ [])
          (block-with (flag_set x.depth 0 ∷ c.select nought (c.otherwise (stated_all A c.closed)) ∷ if_flag x.depth (c.leave ∷ []) ∷ B)
          (flag_set x.depth 0 ∷ c.select nought (c.otherwise (stated_all A' c.closed)) ∷ if_flag x.depth (c.leave ∷ []) ∷ B')
          (one-with (flag_set x.depth 0) (flag_set x.depth 0) (c.select nought (c.otherwise (stated_all A c.closed)) ∷ if_flag x.depth (c.leave ∷ []) ∷ B)
          (c.select nought (c.otherwise (stated_all A' c.closed)) ∷ if_flag x.depth (c.leave ∷ []) ∷ B') (flag-stays x.depth 0)
          (one-with (c.select nought (c.otherwise (stated_all A c.closed))) (c.select nought (c.otherwise (stated_all A' c.closed))) (if_flag x.depth (c.leave ∷ []) ∷ B)
          (if_flag x.depth (c.leave ∷ []) ∷ B')
          (ap (λ i. c.select nought (c.otherwise i)) (stated-with A c.closed ∙ ap (λ l. stated_all l c.closed) first))
          (one-with (if_flag x.depth (c.leave ∷ [])) (if_flag x.depth (c.leave ∷ [])) B B' (if-with x.depth (c.leave ∷ []) (c.leave ∷ []) refl) second))))
      lowered-with (switch p ss) x g w h =
          let k : Keeping = untouched x.locals g ss in
          let k' : Keeping = untouched x.locals g (renamed_all q ss) in
          let same : k ≡ k' = sym (untouched-same q x.locals g ss) in
          let I : SwitchItems = items ss (in_switch x) k k in
          let I' : SwitchItems = items (renamed_all q ss) (in_switch (named_so x)) k' k' in
          let inner : switch_with I r ≡ I' = items-with ss (in_switch x) k k (switch-stays x) h
          ∙ ap (λ j. items (renamed_all q ss) (in_switch (named_so x)) j j) same in
          one-with (flag_set x.depth 0) (flag_set x.depth 0) (c.select (integer_in p) I ∷ if_flag x.depth x.going_on ∷ [])
          (c.select (integer_in p) I' ∷ if_flag x.depth x.going_on ∷ []) (flag-stays x.depth 0)
          (one-with (c.select (integer_in p) I) (c.select (integer_in p) I') (if_flag x.depth x.going_on ∷ []) (if_flag x.depth x.going_on ∷ [])
          (ap (λ e. c.select e (switch_with I r)) (integer-stays p) ∙ ap (c.select (integer_in p)) inner)
          (ap (λ s. s ∷ []) (if-with x.depth x.going_on x.going_on w.going_on)))
      lowered-with (case_label z) x g w h = refl
      lowered-with default_label x g w h = refl
      lowered-with leave x g w h = w.leaving
      lowered-with continue x g w h = w.going_on
      lowered-with (give None) x g w h = none-stay x.result
      lowered-with (give (Some p)) x g w h = given-stay x.result (value_in g p) (held-stays r own g p)
      lowered-with (parts ps) x g w h = refl

      pub all-lowered-with : (ss : Plains) (x : Inside) (g : Keeping) → WaysStay x → GoAll x (all_actions ss)
          → all_with (all_lowered ss x g) ≡ all_lowered (renamed_all q ss) (named_so x) g
      all-lowered-with nothing x g w h = refl
      all-lowered-with (more s ss) x g w h =
          append-with (lowered s x g) (all_lowered ss x (after x.locals s g)) (lowered (renamed q s) (named_so x) g)
          (all_lowered (renamed_all q ss) (named_so x) (after x.locals (renamed q s) g)) (lowered-with s x g w (go-left x (actions s) (all_actions ss) h))
          (all-lowered-with ss x (after x.locals s g) w (go-right x (actions s) (all_actions ss) h)
          ∙ ap (all_lowered (renamed_all q ss) (named_so x)) (sym (after-same q x.locals s g)))

      items-with : (ss : Plains) (x : Inside) (g k : Keeping) → WaysStay x → GoAll x (all_actions ss)
          → switch_with (items ss x g k) r ≡ items (renamed_all q ss) (named_so x) g k
      items-with nothing x g k w h = refl
      items-with (more (case_label z) ss) x g k w h = ap (c.labelled (constants.Signed (converted_to Int z))) (items-with ss x g g w h)
      items-with (more default_label ss) x g k w h = ap c.otherwise (items-with ss x g g w h)
      items-with (more s ss) x g k w h =
          stated-on s ss x g k (lowered-with s x k w (go-left x (actions s) (all_actions ss) h))
          (items-with ss x g (after x.locals s k) w (go-right x (actions s) (all_actions ss) h))
