-- Link names of functions that are no members.
use Rattle.std.proofs.Common.{◌≡◌, ℕ, List, [], ◌++◌, Option, Some, refl, sym, ap, ◌∙◌, append_assoc}
use Rattle.std.specs.Prelude.{codes}
use Rattle.cf_classes.specs.LinkName.{Plain, Main}
use Rattle.cf_elab.specs.Env.{Env}
use Rattle.cf_elab_objects.specs.Links.Shut as shut
use Rattle.cf_elab_objects.specs.Links.Text.{added}
use Rattle.cf_elab_objects.proofs.LinksLaws.TextLaws.{two, as_written}

link_text : (env : Env) (name : List ℕ) (t : ℕ) → shut.function_link env (Plain name) t ≡ name ++ (codes "__F" ++ shut.parameter_code env t)
unfolding shut.function_link shut.parameter_code
link_text env name t = simp append_assoc

pub plain_name : (env : Env) (name : List ℕ) (t : ℕ) (a b c d : Option (List ℕ)) → a ≡ Some [] → b ≡ added name a → c ≡ added (codes "__F") b → d ≡ added (shut.parameter_code env t) c
    → shut.name_or_limit (shut.function_link env (Plain name) t) env ≡ shut.ended d env
plain_name env name t a b c d p q r s =
    let back : List ℕ = codes "__F" ++ shut.parameter_code env t in
    let whole : d ≡ added (shut.function_link env (Plain name) t) a =
    two name back (shut.function_link env (Plain name) t) a b d q (two (codes "__F") (shut.parameter_code env t) back b c d r s refl) (link_text env name t) in
    as_written (shut.function_link env (Plain name) t) env ∙ ap (λ o. shut.ended o env) (sym (whole ∙ ap (added (shut.function_link env (Plain name) t)) p))

pub main_name : (env : Env) (link : List ℕ) → link ≡ codes "__main" → (t : ℕ) → link ≡ shut.function_link env Main t
unfolding shut.function_link
main_name env link h t = h

pub ruleset plain_laws = (plain_name)

pub ruleset main_laws = (main_name)
