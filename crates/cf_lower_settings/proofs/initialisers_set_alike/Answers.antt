use Rattle.std.specs.Prelude.{[]}
use Rattle.cf_lower.specs.Constants.{nothing_known, constant_code}
use Rattle.cf_plain.specs.Acts.{no_registers}
use Rattle.cf_plain.specs.Joined.{renamed_all}
use Rattle.cf_plain.specs.Running.{all}
use Rattle.cf_lower_settings.proofs.Done.{with_names}
use Rattle.cf_lower_settings.proofs.Runs.{gives-map}
use Rattle.cf_lower_settings.proofs.Settings.{Done, SetsOwn, sim-of, one-set}
use Rattle.cf_lower_settings.proofs.initialisers_set_alike.Goals as goal

pub returns : goal.returns
returns c = λ P function signature texts F names N q r again c_again helps p inside depth adds name own O ss f s u w e goes stands clear.
    let xs = with_names r (constant_code [] ss f nothing_known) in
    let x = all again P (renamed_all q ss) no_registers s w in
    sim-of P function signature texts names q r again c_again helps p inside depth name xs F s u w (adds xs u w) x
    (gives-map (λ flow t. SetsOwn P function signature texts names q r again c_again helps p inside depth name xs own F s u t)
    (λ flow t. Done P function signature texts names q r again c_again helps p inside depth name xs F s u t) x w (λ flow t d. d.done)
    (one-set P function signature texts names q r again c_again helps p inside depth name F N name own O ss f s u w e goes stands clear))
