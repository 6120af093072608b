-- Link names of functions, by what they are called.
use Rattle.std.proofs.Common.{◌≡◌, ℕ, ◌≤◌, ◌^◌, true, false, if◌then◌else◌, nat_le, List, [], length, refl, sym, ap, ◌∙◌, arith, lit≤}
use Rattle.std.proofs.lemmas.Bool.Decides.{nat_tests}
use Rattle.std.specs.Prelude.{codes}
use Rattle.cf_base.specs.declared.limit.Bound.TheVariants as bound
use Rattle.cf_classes.specs.LinkName.{Main, Plain}
use Rattle.cf_elab.specs.Answer.{Made, onward}
use Rattle.cf_elab.specs.Complete.{within, most_name}
use Rattle.cf_elab.specs.Env.{Env}
use Rattle.cf_elab.specs.Functions.{Says, function_link}
use Rattle.cf_elab_objects.specs.Links.Shut as links
use Rattle.cf_elab_functions.specs.declared.says.Called.{Called}
use Rattle.cf_elab_functions.specs.declared.says.Called.TheVariants as called
use Rattle.cf_elab_functions.specs.Seen.{called_seen}
use Rattle.cf_elab_functions.specs.Shut as shut

short : (w : List ℕ) (env : Env) → length w ≤ 2 ^ 20 → links.name_or_limit w env ≡ Made w env
unfolding links.name_or_limit
short w env h = let e : nat_le (length w) (2 ^ 20) ≡ true = grind (arith, nat_tests) in ap (λ b. onward (within b bound.Names most_name env) (λ _ e. Made w e)) e

main_is : (env : Env) (t : ℕ) → links.function_link env Main t ≡ codes "__main"
unfolding links.function_link
main_is env t = refl

pub main_link_is : (env : Env) (name link : List ℕ) (k : Called) (t : ℕ) → k ≡ called.Main → ((u : ℕ) → link ≡ links.function_link env Main u)
    → links.name_or_limit (links.function_link env (called_seen name k) t) env ≡ Made link env
main_link_is env name link k t is h =
    ap (λ k. links.name_or_limit (links.function_link env (called_seen name k) t) env) is
    ∙ ap (λ w. links.name_or_limit w env) (main_is env t) ∙ short (codes "__main") env (lit≤ tt) ∙ ap (λ w. Made w env) (sym (h t ∙ main_is env t))

pub plain_link_is : (env : Env) (name : List ℕ) (k : Called) (t : ℕ) → k ≡ called.Plain
    → links.name_or_limit (links.function_link env (called_seen name k) t) env ≡ links.name_or_limit (links.function_link env (Plain name) t) env
plain_link_is env name k t is = ap (λ k. links.name_or_limit (links.function_link env (called_seen name k) t) env) is

-- where an initialiser stands behind the declaration there is none
pub no_link : (env : Env) (d : Says) (link : List ℕ) → d.is_initialised ≡ true → link ≡ [] → links.name_or_limit (shut.said_link env d) env ≡ Made link env
unfolding shut.said_link
no_link env d link is none =
    ap (λ b. links.name_or_limit (if b then [] else function_link env d.called d.type) env) is ∙ short [] env (lit≤ tt) ∙ ap (λ w. Made w env) (sym none)

pub its_link : (env : Env) (d : Says) → d.is_initialised ≡ false → shut.said_link env d ≡ links.function_link env d.called d.type
unfolding shut.said_link links.function_link
its_link env d is = ap (λ b. if b then [] else function_link env d.called d.type) is

pub ruleset said_laws = (no_link, its_link)

pub ruleset link_laws = (main_link_is, plain_link_is)
