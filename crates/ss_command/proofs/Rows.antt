-- Worked rows of the definitions.
use Rattle.std.proofs.Common.{◌≡◌, [], ◌∷◌, ◌++◌, map, Ok, Err, Some, None, Option, Result, refl}
use Rattle.std.specs.Prelude.{codes, replicate, pos, negsuc}
use Rattle.std.specs.Fmt.{digits}
use Rattle.ss_fields.specs.Words.{is_number, number_of, number_up_to, signed_of}
use Rattle.ss_catalog.specs.Names.{is_name}
use Rattle.ss_catalog.specs.declared.event.Event.TheVariants.{Create, Value, Open, Close, Drop}
use Rattle.ss_catalog.specs.Params.{exp, power}
use Rattle.ss_catalog.specs.declared.params.Family.TheVariants.{Exp, Power}
use Rattle.ss_catalog.specs.declared.query.End.TheVariants as ends
use Rattle.ss_catalog.specs.declared.query.Kind.TheVariants as kinds
use Rattle.ss_catalog.specs.declared.refusal.Refusal.{Refusal}
use Rattle.ss_catalog.specs.declared.refusal.Refusal.TheVariants as refusals
use Rattle.ss_command.specs.Grammar.{meaning, verb_of}
use Rattle.ss_command.specs.Lines.{ended_lines, lines, unended}
use Rattle.ss_command.specs.Printed.{printed}
use Rattle.ss_command.specs.Words.{words}
use Rattle.ss_command.specs.declared.TheConstants.{LINE_END, CARRIAGE_RETURN, LONGEST_LINE, COMMENT}
use Rattle.ss_command.specs.declared.line_reader.TheConstants.{MOST_BYTES_KEPT}
use Rattle.ss_command.specs.declared.command.Command.{Command}
use Rattle.ss_command.specs.declared.command.Command.TheVariants as commands
use Rattle.ss_command.specs.declared.verb.Verb.TheVariants as verbs

line_end : LINE_END ≡ 10
line_end = refl

carriage_return : CARRIAGE_RETURN ≡ 13
carriage_return = refl

longest_line : LONGEST_LINE ≡ 256
longest_line = refl

most_bytes_kept : MOST_BYTES_KEPT ≡ 257
most_bytes_kept = refl

comment : COMMENT ≡ 35
comment = refl

lines-last_unended : lines (codes "ab" ++ 10 ∷ codes "cd") ≡ codes "ab" ∷ codes "cd" ∷ []
unfolding ended_lines unended
lines-last_unended = refl

lines-last_ended : lines (codes "ab" ++ 10 ∷ []) ≡ codes "ab" ∷ []
unfolding ended_lines unended
lines-last_ended = refl

lines-nothing : lines [] ≡ []
unfolding ended_lines unended
lines-nothing = refl

lines-one_end : lines (10 ∷ []) ≡ [] ∷ []
unfolding ended_lines unended
lines-one_end = refl

lines-returns : lines (codes "a" ++ 13 ∷ 10 ∷ codes "b" ++ 13 ∷ 13 ∷ 10 ∷ 13 ∷ []) ≡ codes "a" ∷ (98 ∷ 13 ∷ []) ∷ [] ∷ []
unfolding ended_lines unended
lines-returns = refl

words-runs : words (codes " ab  c" ++ 9 ∷ codes "d ") ≡ codes "ab" ∷ codes "c" ∷ codes "d" ∷ []
unfolding words
words-runs = refl

-- lines that are no commands
means-nothing : map meaning ([] ∷ codes "  " ∷ codes "# note" ∷ codes "#" ∷ []) ≡ Ok None ∷ Ok None ∷ Ok None ∷ Ok None ∷ []
unfolding meaning words
means-nothing = refl

-- the forms
means-commands :
    map meaning (codes "create a exp 2 1 1" ∷ codes "create p power 1 0 01 4294967295" ∷ codes "append a 10 5" ∷ codes "append a 007 -0"
    ∷ codes "append a 4611686018427387904 -9223372036854775808" ∷ codes "windows a" ∷ codes "list" ∷ [])
    ≡ Ok (Some (commands.Do (Create (codes "a") (exp 2 1 1))))
    ∷ Ok (Some (commands.Do (Create (codes "p") (power 1 0 1 4294967295))))
    ∷ Ok (Some (commands.Do (Value (codes "a") 10 (pos 5))))
    ∷ Ok (Some (commands.Do (Value (codes "a") 7 (pos 0))))
    ∷ Ok (Some (commands.Do (Value (codes "a") 4611686018427387904 (negsuc 9223372036854775807))))
    ∷ Ok (Some (commands.Windows (codes "a")))
    ∷ Ok (Some commands.List)
    ∷ []
unfolding meaning words is_number number_of number_up_to signed_of is_name
means-commands = refl

-- the forms with a step, also with that of no target
means-within :
    map meaning (codes "create a exp 2 1 1 within 60" ∷ codes "create a power 1 1 1 1 within 4294967295" ∷ codes "create b exp 2 1 1 within 00060"
    ∷ codes "create a exp 2 1 1 within 0" ∷ [])
    ≡ Ok (Some (commands.Do (Create (codes "a") (record { family = Exp 2 1 1; within = Some 60 }))))
    ∷ Ok (Some (commands.Do (Create (codes "a") (record { family = Power 1 1 1 1; within = Some 4294967295 }))))
    ∷ Ok (Some (commands.Do (Create (codes "b") (record { family = Exp 2 1 1; within = Some 60 }))))
    ∷ Ok (Some (commands.Do (Create (codes "a") (record { family = Exp 2 1 1; within = Some 0 }))))
    ∷ []
unfolding meaning words is_number number_of number_up_to signed_of is_name
means-within = refl

abbrev refused : Refusal → Result (Option Command) Refusal
refused refusal = Err refusal

-- the order of the refusals
means-refused :
    map meaning (codes "windows" ∷ codes "LIST" ∷ codes "create a exp 2 1" ∷ codes "append x! y 1" ∷ codes "append a 4611686018427387905 1"
    ∷ codes "append a 80 9223372036854775808" ∷ codes "create a exp 4294967296 1 1" ∷ codes "append x! 1 1" ∷ codes " # note" ∷ [])
    ≡ map refused (refusals.Syntax ∷ refusals.Syntax ∷ refusals.Syntax ∷ refusals.Number ∷ refusals.Number ∷ refusals.Number ∷ refusals.Number ∷ refusals.Name
    ∷ refusals.Syntax ∷ [])
unfolding meaning words is_number number_of number_up_to signed_of is_name
means-refused = refl

means-within_refused :
    map meaning (codes "create a exp 2 1 1 within 4294967296" ∷ codes "create a exp 2 1 1 within -1" ∷ codes "create a! exp 2 1 1 within x"
    ∷ codes "create a! exp 2 1 1 within 0" ∷ codes "create a! exp x 1 1 inside 5" ∷ codes "create a exp 2 1 1 within" ∷ codes "create a exp 2 1 1 withing 5"
    ∷ codes "create a exp 2 1 1 within 5 6" ∷ codes "create a within 5 exp 2 1 1" ∷ codes "create a exp 2 1 1 5" ∷ codes "create a power 1 1 1 within 5" ∷ [])
    ≡ map refused (refusals.Number ∷ refusals.Number ∷ refusals.Number ∷ refusals.Name ∷ refusals.Syntax ∷ refusals.Syntax ∷ refusals.Syntax
    ∷ refusals.Syntax ∷ refusals.Syntax ∷ refusals.Syntax ∷ refusals.Syntax ∷ [])
unfolding meaning words is_number number_of number_up_to signed_of is_name
means-within_refused = refl

means-queries :
    map meaning (codes "query a count 10 40" ∷ codes "query a sum 00 4611686018427387904" ∷ codes "query a min 5 4" ∷ codes "query a max 0 0" ∷ [])
    ≡ Ok (Some (commands.Ask (record { name = codes "a"; kind = kinds.Count; from = 10; to = 40 })))
    ∷ Ok (Some (commands.Ask (record { name = codes "a"; kind = kinds.Sum; from = 0; to = 4611686018427387904 })))
    ∷ Ok (Some (commands.Ask (record { name = codes "a"; kind = kinds.Min; from = 5; to = 4 })))
    ∷ Ok (Some (commands.Ask (record { name = codes "a"; kind = kinds.Max; from = 0; to = 0 })))
    ∷ []
unfolding meaning words is_number number_of number_up_to signed_of is_name
means-queries = refl

means-queries_refused :
    map meaning (codes "query a count 1" ∷ codes "query a count 1 2 3" ∷ codes "query a avg 1 2" ∷ codes "query x! avg y 2" ∷ codes "query x! sum y 2"
    ∷ codes "query a sum 1 4611686018427387905" ∷ codes "query a sum -1 2" ∷ codes "query x! sum 1 2" ∷ [])
    ≡ map refused (refusals.Syntax ∷ refusals.Syntax ∷ refusals.Syntax ∷ refusals.Syntax ∷ refusals.Number ∷ refusals.Number ∷ refusals.Number ∷ refusals.Name
    ∷ [])
unfolding meaning words is_number number_of number_up_to signed_of is_name
means-queries_refused = refl

means-has :
    map meaning (codes "query a has 5 10 40" ∷ codes " query\ta has -0 00 4611686018427387904 " ∷ codes "query a has 007 5 4"
    ∷ codes "query a has 9223372036854775807 1 2" ∷ codes "query a has -9223372036854775808 0 0" ∷ [])
    ≡ Ok (Some (commands.Ask (record { name = codes "a"; kind = kinds.Has (pos 5); from = 10; to = 40 })))
    ∷ Ok (Some (commands.Ask (record { name = codes "a"; kind = kinds.Has (pos 0); from = 0; to = 4611686018427387904 })))
    ∷ Ok (Some (commands.Ask (record { name = codes "a"; kind = kinds.Has (pos 7); from = 5; to = 4 })))
    ∷ Ok (Some (commands.Ask (record { name = codes "a"; kind = kinds.Has (pos 9223372036854775807); from = 1; to = 2 })))
    ∷ Ok (Some (commands.Ask (record { name = codes "a"; kind = kinds.Has (negsuc 9223372036854775807); from = 0; to = 0 })))
    ∷ []
unfolding meaning words is_number number_of number_up_to signed_of is_name
means-has = refl

-- the order of the refusals; only a query takes a value, and only with `has`
means-has_refused :
    map meaning (codes "query x! has" ∷ codes "query x! has y" ∷ codes "query x! has y 2" ∷ codes "query x! has y 1 2 3" ∷ codes "query x! HAS y 1 2"
    ∷ codes "query x! count y 1 2" ∷ codes "query x! max 5 1 2" ∷ codes "query x! 5 has 1 2" ∷ codes "series x! has y 2 1" ∷ codes "series x! has 5 1 2 1"
    ∷ codes "certify x! has lo y 2" ∷ codes "certify x! has 5 lo 1 2" ∷ [])
    ≡ map refused (refusals.Syntax ∷ refusals.Syntax ∷ refusals.Syntax ∷ refusals.Syntax ∷ refusals.Syntax ∷ refusals.Syntax ∷ refusals.Syntax
    ∷ refusals.Syntax ∷ refusals.Syntax ∷ refusals.Syntax ∷ refusals.Syntax ∷ refusals.Syntax ∷ [])
unfolding meaning words is_number number_of number_up_to signed_of is_name
means-has_refused = refl

means-has_numbers :
    map meaning (codes "query x! has y 1 2" ∷ codes "query x! has 9223372036854775808 1 2" ∷ codes "query x! has -9223372036854775809 1 2"
    ∷ codes "query x! has -5 y 2" ∷ codes "query x! has 5 -1 2" ∷ codes "query x! has 5 1 4611686018427387905"
    ∷ codes "query a has +5 1 2" ∷ codes "query x! has -5 1 2" ∷ [])
    ≡ map refused (refusals.Number ∷ refusals.Number ∷ refusals.Number ∷ refusals.Number ∷ refusals.Number ∷ refusals.Number ∷ refusals.Number
    ∷ refusals.Name ∷ [])
unfolding meaning words is_number number_of number_up_to signed_of is_name
means-has_numbers = refl

means-landmarks :
    map meaning (codes "landmark a open 80" ∷ codes " landmark a\tclose 0081 " ∷ codes "landmark a open 4611686018427387904" ∷ codes "landmark a close 0" ∷ [])
    ≡ Ok (Some (commands.Do (Open (codes "a") 80)))
    ∷ Ok (Some (commands.Do (Close (codes "a") 81)))
    ∷ Ok (Some (commands.Do (Open (codes "a") 4611686018427387904)))
    ∷ Ok (Some (commands.Do (Close (codes "a") 0)))
    ∷ []
unfolding meaning words is_number number_of number_up_to signed_of is_name
means-landmarks = refl

means-landmarks_refused :
    map meaning (codes "landmark" ∷ codes "landmark a open" ∷ codes "landmark a close 1 2" ∷ codes "landmark a shut 1" ∷ codes "landmark x! Open y"
    ∷ codes "landmark x! open y" ∷ codes "landmark a open 4611686018427387905" ∷ codes "landmark a close -1" ∷ codes "landmark x! close 1" ∷ [])
    ≡ map refused (refusals.Syntax ∷ refusals.Syntax ∷ refusals.Syntax ∷ refusals.Syntax ∷ refusals.Syntax ∷ refusals.Number ∷ refusals.Number ∷ refusals.Number
    ∷ refusals.Name ∷ [])
unfolding meaning words is_number number_of number_up_to signed_of is_name
means-landmarks_refused = refl

-- a number that is none comes before a name that is none, in every form
means-numbers_first :
    map meaning (codes "landmark x! close y" ∷ codes "create x! power 1 0 1 y" ∷ codes "create x! power 1 0 1 1 within y" ∷
    codes "create x! power 1 0 1 1" ∷ [])
    ≡ map refused (refusals.Number ∷ refusals.Number ∷ refusals.Number ∷ refusals.Name ∷ [])
unfolding meaning words is_number number_of number_up_to signed_of is_name
means-numbers_first = refl

means-drops : map meaning (codes "drop a" ∷ codes " drop\tabcdefghijklmnopqrstuvwxyz012345 " ∷ [])
    ≡ Ok (Some (commands.Do (Drop (codes "a")))) ∷ Ok (Some (commands.Do (Drop (codes "abcdefghijklmnopqrstuvwxyz012345")))) ∷ []
unfolding meaning words is_name
means-drops = refl

-- the order of the refusals
means-drops_refused :
    map meaning (codes "drop" ∷ codes "drop a b" ∷ codes "drop x! b" ∷ codes "Drop a" ∷ codes "drop x!" ∷ codes "drop abcdefghijklmnopqrstuvwxyz0123456" ∷ [])
    ≡ map refused (refusals.Syntax ∷ refusals.Syntax ∷ refusals.Syntax ∷ refusals.Syntax ∷ refusals.Name ∷ refusals.Name ∷ [])
unfolding meaning words is_name
means-drops_refused = refl

-- `list` with blanks after it, up to the longest line and one past it
means-256_bytes : meaning (codes "list" ++ replicate 252 32) ≡ Ok (Some commands.List)
unfolding meaning words
means-256_bytes = refl

means-257_bytes : meaning (codes "list" ++ replicate 253 32) ≡ refused refusals.Line
unfolding meaning
means-257_bytes = refl

printed-commands :
    map printed (commands.Do (Create (codes "a") (exp 2 1 1)) ∷ commands.Do (Create (codes "p") (power 1 0 1 4)) ∷ commands.Do (Value (codes "a") 7 (negsuc 2))
    ∷ commands.Windows (codes "a") ∷ commands.List ∷ [])
    ≡ codes "create a exp 2 1 1" ∷ codes "create p power 1 0 1 4" ∷ codes "append a 7 -3" ∷ codes "windows a" ∷ codes "list" ∷ []
unfolding printed digits
printed-commands = refl

printed-within :
    map printed (commands.Do (Create (codes "a") (record { family = Exp 2 1 1; within = Some 1 }))
    ∷ commands.Do (Create (codes "p") (record { family = Power 1 0 1 4; within = Some 4294967295 })) ∷ [])
    ≡ codes "create a exp 2 1 1 within 1" ∷ codes "create p power 1 0 1 4 within 4294967295" ∷ []
unfolding printed digits
printed-within = refl

printed-landmarks : map printed (commands.Do (Open (codes "a") 80) ∷ commands.Do (Close (codes "a") 4611686018427387904) ∷ []) ≡ codes "landmark a open 80"
    ∷ codes "landmark a close 4611686018427387904" ∷ []
unfolding printed digits
printed-landmarks = refl

printed-drop : printed (commands.Do (Drop (codes "a"))) ≡ codes "drop a"
unfolding printed
printed-drop = refl

printed-query : printed (commands.Ask (record { name = codes "a"; kind = kinds.Max; from = 45; to = 65 })) ≡ codes "query a max 45 65"
unfolding printed digits
printed-query = refl

printed-has :
    map printed (commands.Ask (record { name = codes "a"; kind = kinds.Has (pos 5); from = 45; to = 65 })
    ∷ commands.Ask (record { name = codes "a"; kind = kinds.Has (negsuc 9223372036854775807); from = 0; to = 4611686018427387904 }) ∷ [])
    ≡ codes "query a has 5 45 65" ∷ codes "query a has -9223372036854775808 0 4611686018427387904" ∷ []
unfolding printed digits
printed-has = refl

-- no byte but a space and a tab stands between words
words-other : map words ((97 ∷ 11 ∷ 98 ∷ []) ∷ (97 ∷ 12 ∷ 98 ∷ []) ∷ (97 ∷ 13 ∷ 98 ∷ []) ∷ (97 ∷ 0 ∷ 98 ∷ []) ∷ [])
    ≡ ((97 ∷ 11 ∷ 98 ∷ []) ∷ []) ∷ ((97 ∷ 12 ∷ 98 ∷ []) ∷ [])
    ∷ ((97 ∷ 13 ∷ 98 ∷ []) ∷ []) ∷ ((97 ∷ 0 ∷ 98 ∷ []) ∷ []) ∷ []
unfolding words
words-other = refl

-- no form takes a word more
means-one_more :
    map meaning (codes "list a" ∷ codes "windows a b" ∷ codes "append a 1 2 3" ∷ codes "create a exp 2 1 1 1" ∷ codes "create a power 1 0 1 4 1" ∷ [])
    ≡ map refused (refusals.Syntax ∷ refusals.Syntax ∷ refusals.Syntax ∷ refusals.Syntax ∷ refusals.Syntax ∷ [])
unfolding meaning words is_number number_of number_up_to signed_of is_name
means-one_more = refl

means-series :
    map meaning (codes "series a count 10 40 5" ∷ codes "series a sum 00 4611686018427387904 4611686018427387904" ∷ codes "series a min 5 4 1"
    ∷ codes "series a max 0 99999 1" ∷ codes "series a max 1 0 1" ∷ [])
    ≡ Ok (Some (commands.Series (record { name = codes "a"; kind = kinds.Count; from = 10; to = 40; step = 5 })))
    ∷ Ok (Some (commands.Series (record { name = codes "a"; kind = kinds.Sum; from = 0; to = 4611686018427387904; step = 4611686018427387904 })))
    ∷ Ok (Some (commands.Series (record { name = codes "a"; kind = kinds.Min; from = 5; to = 4; step = 1 })))
    ∷ Ok (Some (commands.Series (record { name = codes "a"; kind = kinds.Max; from = 0; to = 99999; step = 1 })))
    ∷ Ok (Some (commands.Series (record { name = codes "a"; kind = kinds.Max; from = 1; to = 0; step = 1 })))
    ∷ []
unfolding meaning words is_number number_of number_up_to signed_of is_name
means-series = refl

-- the order of the refusals; a step of 0, one past the last time, and one row too many
means-series_refused :
    map meaning (codes "series a count 1 2" ∷ codes "series a count 1 2 3 4" ∷ codes "series x! avg y 2 0" ∷ codes "series x! sum y 2 1"
    ∷ codes "series x! sum 1 2 0" ∷ codes "series a sum 1 2 4611686018427387905" ∷ codes "series a sum 0 100000 1" ∷ codes "series a sum 2 1 0"
    ∷ codes "series x! sum 0 100000 1" ∷ codes "series x! sum 0 100000 2" ∷ [])
    ≡ map refused (refusals.Syntax ∷ refusals.Syntax ∷ refusals.Syntax ∷ refusals.Number ∷ refusals.Number ∷ refusals.Number ∷ refusals.Number
    ∷ refusals.Number ∷ refusals.Number ∷ refusals.Name ∷ [])
unfolding meaning words is_number number_of number_up_to signed_of is_name
means-series_refused = refl

-- the forms that ask for the likeliest values, and the order of their refusals
means-estimate :
    map meaning (codes "estimate a count 10 40" ∷ codes "estimate a sum 5 4" ∷ codes "estimates a count 10 40 5" ∷ codes "estimates a sum 1 0 1" ∷ [])
    ≡ Ok (Some (commands.Ask (record { name = codes "a"; kind = kinds.CountGuess; from = 10; to = 40 })))
    ∷ Ok (Some (commands.Ask (record { name = codes "a"; kind = kinds.SumGuess; from = 5; to = 4 })))
    ∷ Ok (Some (commands.Series (record { name = codes "a"; kind = kinds.CountGuess; from = 10; to = 40; step = 5 })))
    ∷ Ok (Some (commands.Series (record { name = codes "a"; kind = kinds.SumGuess; from = 1; to = 0; step = 1 })))
    ∷ []
unfolding meaning words is_number number_of number_up_to signed_of is_name
means-estimate = refl

means-estimate_refused :
    map meaning (codes "estimate a min 0 9" ∷ codes "estimate a has 5 0 9" ∷ codes "estimate a sum x! 9" ∷ codes "estimate a! sum 9 4"
    ∷ codes "estimates a max 0 9 1" ∷ codes "estimates a sum 0 200000 2" ∷ codes "estimates x! sum 0 100000 1" ∷ codes "estimate a sum 1 2 3" ∷ [])
    ≡ map refused (refusals.Syntax ∷ refusals.Syntax ∷ refusals.Number ∷ refusals.Name ∷ refusals.Syntax ∷ refusals.Number ∷ refusals.Number
    ∷ refusals.Syntax ∷ [])
unfolding meaning words is_number number_of number_up_to signed_of is_name
means-estimate_refused = refl

printed-estimate : printed (commands.Ask (record { name = codes "a"; kind = kinds.SumGuess; from = 45; to = 65 })) ≡ codes "estimate a sum 45 65"
unfolding printed digits
printed-estimate = refl

printed-estimates : printed (commands.Series (record { name = codes "a"; kind = kinds.CountGuess; from = 45; to = 65; step = 7 }))
    ≡ codes "estimates a count 45 65 7"
unfolding printed digits
printed-estimates = refl

printed-series : printed (commands.Series (record { name = codes "a"; kind = kinds.Min; from = 45; to = 65; step = 7 })) ≡ codes "series a min 45 65 7"
unfolding printed digits
printed-series = refl

means-certificates :
    map meaning (codes "certify a count lo 10 40" ∷ codes "certify a sum hi 00 4611686018427387904" ∷ codes " certify a\tsum lo 5 4 " ∷ [])
    ≡ Ok (Some (commands.Certify (record { name = codes "a"; kind = kinds.Count; from = 10; to = 40 }) ends.Lo))
    ∷ Ok (Some (commands.Certify (record { name = codes "a"; kind = kinds.Sum; from = 0; to = 4611686018427387904 }) ends.Hi))
    ∷ Ok (Some (commands.Certify (record { name = codes "a"; kind = kinds.Sum; from = 5; to = 4 }) ends.Lo))
    ∷ []
unfolding meaning words is_number number_of number_up_to signed_of is_name
means-certificates = refl

-- the order of the refusals; a kind that there are no certificates for, and a word that is no end
means-certificates_refused :
    map meaning (codes "certify a count lo 1" ∷ codes "certify a count lo 1 2 3" ∷ codes "certify x! min lo y 2" ∷ codes "certify x! max hi y 2"
    ∷ codes "certify x! avg lo y 2" ∷ codes "certify x! sum LO y 2" ∷ codes "certify x! sum low y 2" ∷ codes "certify x! sum lo y 2"
    ∷ codes "certify x! sum hi 1 y" ∷ codes "certify a sum hi 1 4611686018427387905" ∷ codes "certify a sum hi 4611686018427387905 1"
    ∷ codes "certify x! sum lo 1 2" ∷ [])
    ≡ map refused (refusals.Syntax ∷ refusals.Syntax ∷ refusals.Syntax ∷ refusals.Syntax ∷ refusals.Syntax ∷ refusals.Syntax ∷ refusals.Syntax
    ∷ refusals.Number ∷ refusals.Number ∷ refusals.Number ∷ refusals.Number ∷ refusals.Name ∷ [])
unfolding meaning words is_number number_of number_up_to signed_of is_name
means-certificates_refused = refl

printed-certificates :
    map printed
    (commands.Certify (record { name = codes "a"; kind = kinds.Count; from = 45; to = 65 }) ends.Hi
    ∷ commands.Certify (record { name = codes "a"; kind = kinds.Sum; from = 0; to = 4611686018427387904 }) ends.Lo ∷ [])
    ≡ codes "certify a count hi 45 65" ∷ codes "certify a sum lo 0 4611686018427387904" ∷ []
unfolding printed digits
printed-certificates = refl

means-newest :
    map meaning (codes "last a" ∷ codes " last\tabcdefghijklmnopqrstuvwxyz012345 " ∷ codes "values a 0 100" ∷ codes " values\ta 00 4611686018427387904 "
    ∷ codes "values a 5 4" ∷ [])
    ≡ Ok (Some (commands.Last (codes "a")))
    ∷ Ok (Some (commands.Last (codes "abcdefghijklmnopqrstuvwxyz012345")))
    ∷ Ok (Some (commands.Values (codes "a") 0 100))
    ∷ Ok (Some (commands.Values (codes "a") 0 4611686018427387904))
    ∷ Ok (Some (commands.Values (codes "a") 5 4))
    ∷ []
unfolding meaning words is_number number_of number_up_to signed_of is_name
means-newest = refl

-- the order of the refusals
means-newest_refused :
    map meaning (codes "last" ∷ codes "last e 1" ∷ codes "last e! 1" ∷ codes "Last e" ∷ codes "last e!" ∷ codes "values" ∷ codes "values b" ∷ codes "values b 5"
    ∷ codes "values x! y" ∷ codes "values x! 1 2 3" ∷ codes "values f! 5 x" ∷ codes "values f! x 5" ∷ codes "values a 1 4611686018427387905"
    ∷ codes "values a 4611686018427387905 1" ∷ codes "values a -1 2" ∷ codes "values f! 5 4" ∷ [])
    ≡ map refused (refusals.Syntax ∷ refusals.Syntax ∷ refusals.Syntax ∷ refusals.Syntax ∷ refusals.Name ∷ refusals.Syntax ∷ refusals.Syntax ∷ refusals.Syntax
    ∷ refusals.Syntax ∷ refusals.Syntax ∷ refusals.Number ∷ refusals.Number ∷ refusals.Number ∷ refusals.Number ∷ refusals.Number ∷ refusals.Name ∷ [])
unfolding meaning words is_number number_of number_up_to signed_of is_name
means-newest_refused = refl

printed-newest :
    map printed (commands.Last (codes "a") ∷ commands.Values (codes "a") 7 4611686018427387904 ∷ []) ≡
    codes "last a" ∷ codes "values a 7 4611686018427387904" ∷ []
unfolding printed digits
printed-newest = refl

verbs-each : map verb_of (map codes ("create" ∷ "append" ∷ "landmark" ∷ "drop" ∷ "query" ∷ "series" ∷ "windows" ∷ "list" ∷ "certify" ∷
    "last" ∷ "values" ∷ "estimate" ∷ "estimates" ∷ [])) ≡
    map Some (verbs.Create ∷ verbs.Append ∷ verbs.Landmark ∷ verbs.Drop ∷ verbs.Query ∷ verbs.Series ∷ verbs.Windows ∷ verbs.List ∷ verbs.Certify ∷
    verbs.Last ∷ verbs.Values ∷ verbs.Estimate ∷ verbs.Estimates ∷ [])
verbs-each = refl

verbs-none : map verb_of (map codes ("Create" ∷ "creates" ∷ "estimat" ∷ "cursor" ∷ "" ∷ [])) ≡ None ∷ None ∷ None ∷ None ∷ None ∷ []
verbs-none = refl
