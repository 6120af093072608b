-- What actions give by what their operands hold.
use Rattle.std.proofs.Common.{◌≡◌, ℕ, Bool, true, false, ◌&&◌, ◌||◌, if◌then◌else◌, Option, Some, None, refl, sym, ap, ◌∙◌}
use Rattle.cf_base.specs.declared.kind.Kind.{Kind}
use Rattle.cf_base.specs.declared.arith.Arith.{Arith}
use Rattle.cf_core.specs.Types.{SourceType}
use Rattle.cf_core.specs.FromTypes.{Tables, type_of}
use Rattle.cf_core.specs.Typing.{is_comparison}
use Rattle.cf_types.specs.Operators.{is_shift}
use Rattle.cf_lower_types.specs.declared.form.Form.{Form}
use Rattle.cf_lower_types.specs.declared.form.Form.TheVariants as form
use Rattle.cf_plain_kept.specs.Kept.{Kept, no_value, an_integer, a_place, an_object, a_truth, of_kind, given, integer_in, has_kind, right_has, to_member, converted, stored, begun}
use Rattle.cf_lowerable_types.specs.declared.kinds.Kinds.{Kinds}
use Rattle.cf_lowerable_types.specs.Kinds.{has_kind as kind_in}
use Rattle.cf_lowerable_ready.specs.declared.content.Content.TheVariants as content
use Rattle.cf_lowerable_ready.specs.Contents.{known, suits_if}
use Rattle.cf_lowerable_ready.specs.Types.{stripped, outer_type}
use Rattle.cf_lowerable_ready.proofs.TypeLaws.{converted_by}

-- ---- by a test

pub given_so : (x : Kept) (k : Option Kept) (b c : Bool) → b ≡ c → b ≡ true → k ≡ Some x → k ≡ given c x
given_so x k b c is sure e = e ∙ ap (λ d. given d x) (sym sure ∙ is)

pub given_not : (x : Kept) (b c : Bool) → b ≡ c → b ≡ false → None ≡ given c x
given_not x b c is not_so = ap (λ d. given d x) (sym not_so ∙ is)

pub test_of : (x : Kept) (k : Option Kept) (b c : Bool) → b ≡ c → k ≡ given b x → k ≡ given c x
test_of x k b c is e = e ∙ ap (λ d. given d x) is

pub both_are : (a b c d : Bool) → a ≡ c → b ≡ d → (a && b) ≡ (c && d)
both_are a b c d p q = ap (λ e. e && b) p ∙ ap (λ e. c && e) q

pub either_first : (a b c : Bool) → c ≡ a → c ≡ true → true ≡ (a || b)
either_first a b c is sure = ap (λ d. d || b) (sym sure ∙ is)

pub either_second : (a b c e : Bool) → c ≡ a → c ≡ false → e ≡ b → e ≡ (a || b)
either_second a b c e is not_so same = same ∙ ap (λ d. d || b) (sym not_so ∙ is)

-- ---- integers

pub truth_known : (tables : Tables) (ks : Kinds) → kind_in ks ≡ (λ k. true) → known tables (content.Number ks) ≡ Some a_truth
truth_known tables ks e = ap (λ f. Some (an_integer f)) e

pub right_of_shift : (op : Arith) (k : Kind) (x : Option Kept) (b c : Bool) → c ≡ is_shift op → c ≡ true → b ≡ integer_in x → b ≡ right_has op k x
right_of_shift op k x b c is sure e = e ∙ ap (λ d. if d then integer_in x else has_kind k x) (sym sure ∙ is)

pub right_of_other : (op : Arith) (k : Kind) (x : Option Kept) (b c : Bool) → c ≡ is_shift op → c ≡ false → b ≡ has_kind k x → b ≡ right_has op k x
right_of_other op k x b c is not_so e = e ∙ ap (λ d. if d then integer_in x else has_kind k x) (sym not_so ∙ is)

pub compares : (op : Arith) (k : Kind) (y : Option Kept) (c : Bool) → c ≡ is_comparison op → c ≡ true → y ≡ Some a_truth → y ≡ Some (if is_comparison op then a_truth else of_kind k)
compares op k y c is sure e = e ∙ ap (λ d. Some (if d then a_truth else of_kind k)) (sym sure ∙ is)

pub computes : (op : Arith) (k : Kind) (y : Option Kept) (c : Bool) → c ≡ is_comparison op → c ≡ false → y ≡ Some (of_kind k)
    → y ≡ Some (if is_comparison op then a_truth else of_kind k)
computes op k y c is not_so e = e ∙ ap (λ d. Some (if d then a_truth else of_kind k)) (sym not_so ∙ is)

-- ---- conversions, by the form of the type

module _ (tables : Tables) (x : Form) (t : ℕ) (k y : Option Kept) (of : type_of tables t ≡ outer_type tables x) (e : y ≡ to_member (type_of tables t) k) where
  pub data_member_converted : (c u : ℕ) → x ≡ form.DataMember c u → y ≡ converted (outer_type tables x) k
  data_member_converted c u is =
      e ∙ ap (λ w. to_member w k) (of ∙ ap (outer_type tables) is) ∙ sym (ap (λ z. converted (outer_type tables z) k) is)

  pub function_member_converted : (c f : ℕ) → x ≡ form.FunctionMember c f → y ≡ converted (outer_type tables x) k
  function_member_converted c f is =
      e ∙ ap (λ w. to_member w k) (of ∙ ap (outer_type tables) is) ∙ sym (ap (λ z. converted (outer_type tables z) k) is)

pub made_by : (t s o : SourceType) (k y : Option Kept) → s ≡ stripped t → s ≡ o → y ≡ converted o k → y ≡ converted t k
made_by t s o k y bare is e = e ∙ converted_by t s o bare is k

-- ---- values that are put into places

module _ (t : SourceType) where
  pub stored_at : (k y : Option Kept) (b : Bool) → b ≡ suits_if t k → y ≡ given b no_value → y ≡ stored (Some (a_place t)) k
  stored_at k y b is e = e ∙ ap (λ d. given d no_value) is ∙ by k
    where
      by : (k : Option Kept) → given (suits_if t k) no_value ≡ stored (Some (a_place t)) k
      by None = refl
      by (Some x) = refl

  pub begun_at : (k y : Option Kept) (b : Bool) → b ≡ suits_if t k → y ≡ given b no_value → y ≡ begun (Some (a_place t)) k
  begun_at k y b is e = e ∙ ap (λ d. given d no_value) is ∙ by k
    where
      by : (k : Option Kept) → given (suits_if t k) no_value ≡ begun (Some (a_place t)) k
      by None = refl
      by (Some x) = refl

  pub begun_in : (i : ℕ) (k y : Option Kept) (b : Bool) → b ≡ suits_if t k → y ≡ given b no_value → y ≡ begun (Some (an_object i t)) k
  begun_in i k y b is e = e ∙ ap (λ d. given d no_value) is ∙ by k
    where
      by : (k : Option Kept) → given (suits_if t k) no_value ≡ begun (Some (an_object i t)) k
      by None = refl
      by (Some x) = refl
