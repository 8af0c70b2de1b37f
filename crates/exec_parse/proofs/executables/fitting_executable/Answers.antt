use Rattle.ftn_tree.specs.ExecutableForms.{is_executable}
use Rattle.expr_parse.proofs.Laws.{expression_laws, reference_laws}
use Rattle.exec_parse.specs.steps.Executables as read
use Rattle.exec_parse.proofs.ExecutableLaws.{executable_sound, executable_complete}
use Rattle.exec_parse.proofs.Judged.{fitting}
use Rattle.exec_parse.proofs.executables.fitting_executable.Goals as goal

pub returns : goal.returns
unfolding read.whole_executable
returns c =
    fitting read.executable is_executable (executable_sound expression_laws reference_laws) (executable_complete expression_laws reference_laws)
    c.args.cursor.now.at c.args.cursor.now.rest c.read_whole_executable.result c.read_whole_executable.new.cursor c.read_whole_executable.ensures
