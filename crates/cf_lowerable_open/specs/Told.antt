-- What the code's locals tell.
use Rattle.std.specs.Prelude.{List, map}
use Rattle.cf_lower_kept.specs.Opened.{Opened}
use Rattle.cf_lowerable_open.specs.declared.opened.Opened.{Opened as CodeOpened}
use Rattle.cf_lowerable_open.specs.Located.{counts_in, last_of}

abbrev pub told : CodeOpened → Opened
told x = record {
  local = x.local;
  begun = x.begun;
  has_value = x.has_value;
  stands = x.stands;
  flag = x.flag;
  is_told = x.is_told;
  places = counts_in x.places.items;
  last = last_of x.last;
}

abbrev pub all_told : List CodeOpened → List Opened
all_told xs = map told xs
