use Rattle.file_lint.proofs.model_errors.lint_of_model.Goals as goal

pub model_warnings-requires : goal.model_warnings-requires
model_warnings-requires c = c.requires.text.utf8
