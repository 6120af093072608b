-- The names of a program, as linking goes over the items: what is known of them behind the items that stand before.
use Rattle.std.proofs.Common.{◌≡◌, ℕ, Bool, true, false, not, ◌&&◌, ◌||◌, cond, List, [], ◌∷◌, ◌++◌, Option, Some, option_map, refl, ap, sym, subst, ◌∙◌}
use Rattle.std.specs.Prelude.{bytes_eq, find}
use Rattle.std.specs.List.{list_any}
use Rattle.std.proofs.lemmas.Bool.{and_parts, or_parts, true≢false}
use Rattle.std.proofs.lemmas.List.Folds.{list_any-append}
use Rattle.std.proofs.lemmas.Slice.Eq.{bytes_eq-Decides}
use Rattle.cc_whole.specs.Plain.{item_of}
use Rattle.cc_whole.specs.Known.{Meant, Named, lookup, is_in}
use Rattle.cc_whole.specs.Valid.{agrees, own_type, has_type, named_by, is_definition, defined_after}
use Rattle.cc_whole_link.specs.Placed.{Placed, its_name, defines_it, is_shared, defines_named}
use Rattle.cc_whole_link.specs.Link.{other_type, repeats}
use Rattle.cc_whole_linked_valid.proofs.Same.{same_self, same_through, same_sym, same_where_agree, Meets, nothing, both}
use Rattle.cc_whole_linked_valid.proofs.Names.{Names}
use Rattle.cc_whole_linked_valid.proofs.Items.{named_name}

-- ---- a newer name

-- what an old name means, the newer one of this name means too, where they agree
newer : {o p : Option Meant} (m : Meant) → Meets o p → agrees p m ≡ true → Meets o (Some m)
newer m (nothing p) a = nothing (Some m)
newer m (both k n s) a = both k m (same_through s (same_where_agree n m a))

pub newest : (o : Option Meant) (n : Named) (names : List Named) (y : List ℕ) → Meets o (lookup names y) → (bytes_eq n.name y ≡ true → agrees (lookup names y) n.meant ≡ true)
    → Meets o (lookup (n ∷ names) y)
newest o n names y h a = go (bytes_eq n.name y) refl
  where
    go : (b : Bool) → bytes_eq n.name y ≡ b → Meets o (option_map (λ (x : Named). x.meant) (cond b (Some n) (find (λ (x : Named). bytes_eq x.name y) names)))
    go true is = newer n.meant h (a is)
    go false is = h

-- ---- placed items

abbrev pub meant_by : Placed → Meant
meant_by p = (named_by (item_of p.now)).meant

abbrev pub Each : (Placed → Type 0) → List Placed → Type 0
Each P [] = Unit {0}
Each P (p ∷ ps) = P p × Each P ps

pub each_mapped : (P Q : Placed → Type 0) → (ps : List Placed) → (test : Placed → Bool) → list_any test ps ≡ false → ((p : Placed) → test p ≡ false → P p → Q p) → Each P ps → Each Q ps
each_mapped P Q [] test e h a = tt
each_mapped P Q (p ∷ ps) test e h a = go (λ f. each_mapped P Q ps test f h a.1) (test p) refl e
  where
    go : (list_any test ps ≡ false → Each Q ps) → (b : Bool) → test p ≡ b → (b || list_any test ps) ≡ false → Each Q (p ∷ ps)
    go again true is f = absurd (true≢false f)
    go again false is f = (h p is a.0, again f)

pub each_more : (P : Placed → Type 0) (ps qs : List Placed) → Each P ps → Each P qs → Each P (ps ++ qs)
each_more P [] qs a b = b
each_more P (p ∷ ps) qs a b = (a.0, each_more P ps qs a.1 b)

-- one of them passes the test
pub record Passing (P : Placed → Type 0) (test : Placed → Bool) : Type 0 where
  pub one : Placed
  pub passes : test one ≡ true
  pub holds : P one

pub passing : (P : Placed → Type 0) (test : Placed → Bool) (ps : List Placed) → Each P ps → list_any test ps ≡ true → Passing P test
passing P test [] a e = absurd (true≢false (sym e))
passing P test (p ∷ ps) a e = go (passing P test ps a.1) (test p) refl e
  where
    go : (list_any test ps ≡ true → Passing P test) → (b : Bool) → test p ≡ b → (b || list_any test ps) ≡ true → Passing P test
    go again true is f = record { one = p; passes = is; holds = a.0 }
    go again false is f = again f

-- ---- what is known behind items

-- an item's name means what the item says
abbrev pub Stands : List Named → Placed → Type 0
Stands names p = Meets (Some (meant_by p)) (lookup names (its_name p))

abbrev other : List ℕ → Meant → Placed → Bool
other name m b = bytes_eq (its_name b) name && not (agrees (Some (meant_by b)) m)

pub record Behind (before : List Placed) (names : List Named) (defined : Names) : Type 0 where
  -- where all items of a name agree with a meaning, so does what the name means
  pub agree : (name : List ℕ) (m : Meant) → list_any (other name m) before ≡ false → agrees (lookup names name) m ≡ true
  pub there : Each (Stands names) before
  pub once : (name : List ℕ) → list_any (defines_named name) before ≡ false → is_in defined name ≡ false
  -- a name that has a type of its own has this
  pub own : (name : List ℕ) (m : Meant) → lookup names name ≡ Some m → has_type (own_type name) m ≡ true

pub behind_nothing : Behind [] [] []
behind_nothing = record { agree = λ name m e. refl; there = tt; once = λ name e. refl; own = λ name m e. absurd (cc) }

-- a test that fails for all of a longer list
fails_before : (test : Placed → Bool) (before : List Placed) (i : Placed) → list_any test (before ++ i ∷ []) ≡ false → (list_any test before ≡ false) × (test i ≡ false)
fails_before test before i e =
    let parts = or_parts (list_any test before) (test i || false) (sym (list_any-append test before (i ∷ [])) ∙ e) in (parts.0, (or_parts (test i) false parts.1).0)

agreed : (a b : Bool) → (a && not b) ≡ false → a ≡ true → b ≡ true
agreed a true e h = refl
agreed true false e h = absurd (true≢false e)
agreed false false e h = absurd (true≢false (sym h))

module _ (before : List Placed) (names : List Named) (defined : Names) (h : Behind before names defined) (i : Placed) (types : list_any (other_type i) before ≡ false) where
  pub agrees_here : agrees (lookup names (its_name i)) (meant_by i) ≡ true
  agrees_here = h.agree (its_name i) (meant_by i) types

  abbrev added : Named
  added = named_by (item_of i.now)

  added_name : added.name ≡ its_name i
  added_name = named_name (item_of i.now)

  -- among the names of the program with that of the item
  agree_kept : (name : List ℕ) (m : Meant) → list_any (other name m) (before ++ i ∷ []) ≡ false → agrees (lookup (added ∷ names) name) m ≡ true
  agree_kept name m e = let parts = fails_before (other name m) before i e in go parts.0 parts.1 (bytes_eq added.name name) refl
    where
      go : list_any (other name m) before ≡ false → other name m i ≡ false → (b : Bool) → bytes_eq added.name name ≡ b
          → agrees (option_map (λ (x : Named). x.meant) (cond b (Some added) (find (λ (x : Named). bytes_eq x.name name) names))) m ≡ true
      go f g true is = agreed (bytes_eq (its_name i) name) (agrees (Some (meant_by i)) m) g (ap (λ x. bytes_eq x name) (sym added_name) ∙ is)
      go f g false is = h.agree name m f

  own_kept : has_type (own_type (its_name i)) (meant_by i) ≡ true → (name : List ℕ) (m : Meant) → lookup (added ∷ names) name ≡ Some m → has_type (own_type name) m ≡ true
  own_kept t name m e = go (bytes_eq added.name name) refl e
    where
      go : (b : Bool) → bytes_eq added.name name ≡ b
          → option_map (λ (x : Named). x.meant) (cond b (Some added) (find (λ (x : Named). bytes_eq x.name name) names)) ≡ Some m → has_type (own_type name) m ≡ true
      go true is f =
          let same : its_name i ≡ name = sym added_name ∙ (bytes_eq-Decides added.name name).0 is in
          let meaning : meant_by i ≡ m = cc in
          subst (λ x. has_type (own_type name) x ≡ true) meaning (subst (λ x. has_type (own_type x) (meant_by i) ≡ true) same t)
      go false is f = h.own name m f

  once_kept : (name : List ℕ) → list_any (defines_named name) (before ++ i ∷ []) ≡ false → is_in (defined_after (item_of i.now) defined) name ≡ false
  once_kept name e = let parts = fails_before (defines_named name) before i e in go (h.once name parts.0) (is_definition (item_of i.now)) parts.1
    where
      go : is_in defined name ≡ false → (b : Bool) → (b && bytes_eq (its_name i) name) ≡ false → is_in (cond b (its_name i ∷ defined) defined) name ≡ false
      go f true g = ap (λ b. b || is_in defined name) g ∙ f
      go f false g = f

  stands_kept : (p : Placed) → other_type i p ≡ false → Stands names p → Stands (added ∷ names) p
  stands_kept p e s =
      newest (Some (meant_by p)) added names (its_name p) s (λ is. subst (λ x. agrees (lookup names x) (meant_by i) ≡ true) (sym added_name ∙ (bytes_eq-Decides added.name (its_name p)).0 is) agrees_here)

  stands_itself : Stands (added ∷ names) i
  stands_itself = go (bytes_eq added.name (its_name i)) ((bytes_eq-Decides added.name (its_name i)).1 added_name)
    where
      go : (b : Bool) → b ≡ true → Meets (Some (meant_by i)) (option_map (λ (x : Named). x.meant) (cond b (Some added) (find (λ (x : Named). bytes_eq x.name (its_name i)) names)))
      go true is = both (meant_by i) (meant_by i) (same_self (meant_by i))
      go false is = absurd (true≢false (sym is))

  pub behind_kept : has_type (own_type (its_name i)) (meant_by i) ≡ true → Behind (before ++ i ∷ []) (added ∷ names) (defined_after (item_of i.now) defined)
  behind_kept t = record {
    agree = agree_kept;
    there = each_more (Stands (added ∷ names)) before (i ∷ []) (each_mapped (Stands names) (Stands (added ∷ names)) before (other_type i) types stands_kept h.there) (stands_itself, tt);
    once = once_kept;
    own = own_kept t;
  }

  -- a shared definition that is left out, since it stands there
  standing : repeats before i ≡ true → Stands names i
  standing e =
      let one = passing (Stands names) (λ b. defines_named (its_name i) b && (is_shared i && is_shared b)) before h.there (and_parts (defines_it i) _ e).1 in
      let named = (and_parts (defines_named (its_name i) one.one) _ one.passes).0 in
      let same : its_name one.one ≡ its_name i = (bytes_eq-Decides (its_name one.one) (its_name i)).0 (and_parts (defines_it one.one) _ named).1 in
      go (lookup names (its_name i)) (subst (λ x. Meets (Some (meant_by one.one)) (lookup names x)) same one.holds) agrees_here
    where
      go : {m : Meant} (o : Option Meant) → Meets (Some m) o → agrees o (meant_by i) ≡ true → Meets (Some (meant_by i)) o
      go _ (both m n s) a = both (meant_by i) n (same_sym (same_where_agree n (meant_by i) a))

  pub behind_left : repeats before i ≡ true → Behind (before ++ i ∷ []) names defined
  behind_left e = record {
    agree = λ name m f. h.agree name m (fails_before (other name m) before i f).0;
    there = each_more (Stands names) before (i ∷ []) h.there (standing e, tt);
    once = λ name f. h.once name (fails_before (defines_named name) before i f).0;
    own = h.own;
  }

  pub standing_left : repeats before i ≡ true → Stands names i
  standing_left = standing
