-- Linkage specifications, by whether they are built.
use Rattle.std.proofs.Common.{◌≡◌, true, false, ap}
use Rattle.cf_unit.specs.declared.file.Linkage.{Linkage}
use Rattle.cf_elab.specs.Answer.{Made, Refused, need}
use Rattle.cf_elab.specs.Env.{Env}
use Rattle.cf_elab_file.specs.Shut as shut

pub built : (l : Linkage) (env : Env) → shut.is_built env l ≡ true → shut.linkage_checked l env ≡ Made tt env
unfolding shut.linkage_checked
built l env h = ap (λ b. need b 48 l.at env) h

pub not_built : (l : Linkage) (env : Env) → shut.is_built env l ≡ false → shut.linkage_checked l env ≡ Refused 48 l.at
unfolding shut.linkage_checked
not_built l env h = ap (λ b. need b 48 l.at env) h

pub ruleset linkage_laws = (built, not_built)
