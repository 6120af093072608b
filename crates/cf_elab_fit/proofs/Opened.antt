-- What each row under a shut name is: the row of the definitions of elaboration.
use Rattle.std.proofs.Common.{◌≡◌, ℕ, List, refl}
use Rattle.cf_base.specs.declared.kind.Kind.{Kind}
use Rattle.cf_convert.specs.declared.conv.ConvStep.{ConvStep}
use Rattle.cf_elab.specs.ClassOperand as object
use Rattle.cf_elab.specs.Fit as standard
use Rattle.cf_elab.specs.Operand as operand
use Rattle.cf_elab.specs.Operand.{Value}
use Rattle.cf_elab.specs.UserFit as user
use Rattle.cf_elab_fit.specs.Shut as shut

pub plain : (v : Value) → shut.plain v ≡ operand.plain v
unfolding shut.plain
plain v = refl

pub converted : (at t : ℕ) (ss : List ConvStep) (v : Value) → shut.converted at t ss v ≡ standard.converted at t ss v
unfolding shut.converted
converted at t ss v = refl

pub fit : (at : ℕ) (v : Value) (t : ℕ) → shut.fit at v t ≡ standard.fit at v t
unfolding shut.fit
fit at v t = refl

pub user_fit : (at : ℕ) (v : Value) (t : ℕ) → shut.user_fit at v t ≡ user.fit at v t
unfolding shut.user_fit
user_fit at v t = refl

pub to_kind : (k : Kind) (v : Value) → shut.to_kind k v ≡ standard.to_kind k v
unfolding shut.to_kind
to_kind k v = refl

pub truth : (rule at : ℕ) (v : Value) → shut.truth rule at v ≡ standard.truth rule at v
unfolding shut.truth
truth rule at v = refl

pub user_truth : (rule at : ℕ) (v : Value) → shut.user_truth rule at v ≡ object.truth rule at v
unfolding shut.user_truth
user_truth rule at v = refl
