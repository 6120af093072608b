-- Going through tokens: whether their numbers fit, and what stands before what follows them.
use Rattle.std.proofs.Common.{◌≡◌, Bool, true, false, ◌&&◌, List, [], ◌∷◌, ◌++◌, refl, ap, sym, ◌∙◌}
use Rattle.cc_whole_tokens.specs.declared.mark.Mark.{Mark}
use Rattle.cc_whole_tokens.specs.declared.mark.Mark.TheVariants as mark
use Rattle.cc_whole_tokens.specs.declared.token.Token.{Token}
use Rattle.cc_whole_tokens.specs.declared.token.Token.TheVariants as token
use Rattle.cc_whole.specs.SpellsTypes.{sign}
use Rattle.cc_whole.specs.Spells.{bracketed}
use Rattle.cc_whole_fitting.specs.declared.before.Before.{Before}
use Rattle.cc_whole_fitting.specs.declared.before.Before.TheVariants as before
use Rattle.cc_whole_fitting.specs.Numbers.{behind, behind_all, token_fits, fit_from}

-- behind `s` their numbers fit or not, and `t` stands before what follows them
pub record Run (s : Before) (xs : List Token) (b : Bool) (t : Before) : Type 0 where
  pub fit : fit_from xs s ≡ b
  pub after : behind_all xs s ≡ t

pub and_true : (b : Bool) → (b && true) ≡ b
and_true true = refl
and_true false = refl

and_again : (a b c : Bool) → ((a && b) && c) ≡ (a && (b && c))
and_again true b c = refl
and_again false b c = refl

pub nothing : (s : Before) → Run s [] true s
nothing s = record { fit = refl; after = refl }

-- the same numbers by another name
pub told : {s t : Before} {xs : List Token} {a b : Bool} → b ≡ a → Run s xs a t → Run s xs b t
told e r = record { fit = r.fit ∙ sym e; after = r.after }

fit_append : (xs ys : List Token) (s : Before) → fit_from (xs ++ ys) s ≡ (fit_from xs s && fit_from ys (behind_all xs s))
fit_append [] ys s = refl
fit_append (x ∷ xs) ys s =
    ap (λ b. token_fits x s && b) (fit_append xs ys (behind x s)) ∙ sym (and_again (token_fits x s) (fit_from xs (behind x s)) (fit_from ys (behind_all xs (behind x s))))

after_append : (xs ys : List Token) (s : Before) → behind_all (xs ++ ys) s ≡ behind_all ys (behind_all xs s)
after_append [] ys s = refl
after_append (x ∷ xs) ys s = after_append xs ys (behind x s)

-- some tokens and then others
pub both : {s t u : Before} {xs ys : List Token} {a b : Bool} → Run s xs a t → Run t ys b u → Run s (xs ++ ys) (a && b) u
both {s} {xs = xs} {ys = ys} {a = a} r q = record {
  fit = fit_append xs ys s ∙ (ap (λ c. c && fit_from ys (behind_all xs s)) r.fit ∙ ap (λ c. a && c) (ap (fit_from ys) r.after ∙ q.fit));
  after = after_append xs ys s ∙ (ap (behind_all ys) r.after ∙ q.after);
}

-- tokens that fit, and then others
pub fine : {s t u : Before} {xs ys : List Token} {b : Bool} → Run s xs true t → Run t ys b u → Run s (xs ++ ys) b u
fine r q = both r q

-- tokens, and then others that fit
pub closed : {s t u : Before} {xs ys : List Token} {a : Bool} → Run s xs a t → Run t ys true u → Run s (xs ++ ys) a u
closed {a = a} r q = told (sym (and_true a)) (both r q)

-- a sign or word before them
pub put : {s u : Before} {xs : List Token} {b : Bool} (m : Mark) → Run (behind (token.Mark m) s) xs b u → Run s (token.Mark m ∷ xs) b u
put m r = record { fit = r.fit; after = r.after }

pub put_name : {s u : Before} {xs : List Token} {b : Bool} (name : List _) → Run before.Operand xs b u → Run s (token.Name name ∷ xs) b u
put_name name r = record { fit = r.fit; after = r.after }

pub one : (m : Mark) (s : Before) → Run s (sign m) true (behind (token.Mark m) s)
one m s = record { fit = refl; after = refl }

-- an operand in brackets is an operand
pub brackets : {xs : List Token} {b : Bool} (s : Before) → Run before.Other xs b before.Operand → Run s (bracketed xs) b before.Operand
brackets s r = put mark.LeftParen (closed r (one mark.RightParen before.Operand))
