use Rattle.std.proofs.Common.{◌≡◌, ℕ, Err, subst}
use Rattle.cc_whole_read_items.specs.Answers.{Answers}
use Rattle.cc_whole_read.specs.Behind.{place_in, TokensStop}
use Rattle.cc_whole_read.proofs.Answering.{not_c_told}
use Rattle.cc_whole_read.proofs.reader.unit_of.Goals as goal

pub returns-in-Err-NotC : goal.returns-in-Err-NotC
returns-in-Err-NotC c =
    let front = c.args.front.now in
    let is = c.in-Err-NotC.at-is in
    let told : (p : ℕ) → p ≡ place_in front.places.items front.end c.in-Err-NotC.at → TokensStop front p =
    λ p e. not_c_told front c.as_slice.result.now c.as_slice.ensures.value c.in-Err-NotC.at p
    (subst (λ e. Answers c.as_slice.result.now (Err e)) c.in-Err-NotC.field-0-is c.in-Err-NotC.ensures) e in
    rw c.stops_at.ensures (told _ (cc))

pub returns-else-not-front : goal.returns-else-not-front
returns-else-not-front c = c.wide.ensures c.args.version
