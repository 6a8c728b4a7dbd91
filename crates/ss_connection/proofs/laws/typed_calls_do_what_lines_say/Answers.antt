use Rattle.ss_connection.proofs.LawLemmas.{Applies-lines, Says-answered, Says-questioned, Says-typed, Says-unstaged}
use Rattle.ss_connection.proofs.laws.typed_calls_do_what_lines_say.Goals as goal

pub returns-clause-event : goal.returns-clause-event
returns-clause-event g c event line reply was is old new means applies = Says-typed event line reply means applies

pub returns-clause-line : goal.returns-clause-line
returns-clause-line g c line said left was is old new says = Says-unstaged left says

pub returns-clause-question : goal.returns-clause-question
returns-clause-question g c question line reply was is old new means asks = Says-questioned question line reply means asks

pub returns-clause-answer : goal.returns-clause-answer
returns-clause-answer g c question line reply was is old new means asks = Says-answered question line reply means asks

pub returns-clause-values : goal.returns-clause-values
returns-clause-values g c name events ls taken was is old new history meant applies held = Applies-lines history taken ls meant applies held
