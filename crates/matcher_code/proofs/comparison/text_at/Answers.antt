use Rattle.matcher_code.proofs.comparison.text_at.Goals as goal

pub returns-in-Text : goal.returns-in-Text
returns-in-Text c = c.in-Text.ensures
