use Rattle.cf_one_file.proofs.Meanings.{runs-as-meant}
use Rattle.cf_one_file.proofs.laws.lowerable_file_runs_as_meant.Goals as goal

pub returns : goal.returns
returns c =
    runs-as-meant c.text_has_one_unit.ensures c.inputs_are_of_bytes.ensures c.lowerable_file_means.ensures c.one_file_is_sound.ensures c.linked_files_have_main.ensures
