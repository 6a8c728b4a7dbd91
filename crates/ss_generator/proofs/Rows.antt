-- Worked rows of the definitions.
use Rattle.std.proofs.Common.{◌≡◌, [], ◌∷◌, length, map, refl}
use Rattle.std.specs.Prelude.{codes, pos, negsuc}
use Rattle.std.specs.Fmt.{digits}
use Rattle.ss_command.specs.Printed.{printed}
use Rattle.ss_generator.specs.Commands.{commands, most_commands, of_round}
use Rattle.ss_generator.specs.Numbers.{delay, number, number_after, time, value, generated_value}
use Rattle.ss_generator.specs.declared.TheConstants.{CLOSING_ROUND, DIFFERENT_VALUES, GREATEST_VALUE, INCREMENT, LANDMARK_ROUNDS, MOST_COUNT}
use Rattle.ss_generator.specs.declared.TheConstants.{MULTIPLIER, OPENING_ROUND}

most_count : MOST_COUNT ≡ 100000
most_count = refl

multiplier : MULTIPLIER ≡ 6364136223846793005
multiplier = refl

increment : INCREMENT ≡ 1442695040888963407
increment = refl

greatest_value : GREATEST_VALUE ≡ pos 1000
greatest_value = refl

different_values : DIFFERENT_VALUES ≡ 2001
different_values = refl

landmark_rounds : LANDMARK_ROUNDS ∷ OPENING_ROUND ∷ CLOSING_ROUND ∷ [] ≡ 1000 ∷ 500 ∷ 509 ∷ []
landmark_rounds = refl

-- the first numbers, times and values of two seeds
numbers-0 : number 0 0 ∷ number 0 1 ∷ [] ≡ 0 ∷ 1442695040888963407 ∷ []
unfolding number_after
numbers-0 = refl

numbers-1 : number 1 0 ∷ number 1 1 ∷ [] ≡ 1 ∷ 7806831264735756412 ∷ []
unfolding number_after
numbers-1 = refl

times : time 0 0 ∷ time 0 1 ∷ time 1 1 ∷ [] ≡ 0 ∷ 2 ∷ 7 ∷ []
unfolding number_after delay
times = refl

values-first : value 0 1 ∷ value 1 1 ∷ [] ≡ pos 874 ∷ negsuc 415 ∷ []
unfolding number_after generated_value
values-first = refl

-- the ends of what numbers give
delays : map delay (0 ∷ 1152921504606846975 ∷ 1152921504606846976 ∷ 18446744073709551615 ∷ []) ≡ 1 ∷ 1 ∷ 2 ∷ 16 ∷ []
unfolding delay
delays = refl

values-ends : map generated_value (0 ∷ 8589934591 ∷ 8589934592 ∷ 17179869184000 ∷ 17188459118592 ∷ []) ≡ negsuc 999 ∷ negsuc 999 ∷ negsuc 998 ∷ pos 1000 ∷
    negsuc 999 ∷ []
unfolding generated_value
values-ends = refl

-- rounds with and without a landmark
rounds :
    map (map printed) (of_round 1 10 (pos 5) ∷ of_round 499 10 (pos 5) ∷ of_round 500 10 (pos 5) ∷ of_round 509 10 (pos 5) ∷ of_round 1500 10 (pos 5)
    ∷ of_round 2509 10 (pos 5) ∷ [])
    ≡ (codes "append g 10 5" ∷ [])
    ∷ (codes "append g 10 5" ∷ [])
    ∷ (codes "landmark g open 10" ∷ codes "append g 10 5" ∷ [])
    ∷ (codes "append g 10 5" ∷ codes "landmark g close 10" ∷ [])
    ∷ (codes "landmark g open 10" ∷ codes "append g 10 5" ∷ [])
    ∷ (codes "append g 10 5" ∷ codes "landmark g close 10" ∷ [])
    ∷ []
unfolding printed digits
rounds = refl

-- whole command files
commands-0_1 :
    map printed (commands 0 1)
    ≡ codes "create g power 1 1 4 1"
    ∷ codes "append g 2 874"
    ∷ codes "query g count 0 2"
    ∷ codes "query g sum 0 2"
    ∷ codes "query g count 0 1"
    ∷ codes "query g sum 0 1"
    ∷ codes "query g min 0 1"
    ∷ codes "query g max 0 1"
    ∷ []
unfolding commands number_after delay generated_value printed digits
commands-0_1 = refl

commands-1_2 :
    map printed (commands 1 2)
    ≡ codes "create g power 1 1 4 1"
    ∷ codes "append g 7 -416"
    ∷ codes "append g 16 455"
    ∷ codes "query g count 0 16"
    ∷ codes "query g sum 0 16"
    ∷ codes "query g count 5 10"
    ∷ codes "query g sum 5 10"
    ∷ codes "query g min 5 10"
    ∷ codes "query g max 5 10"
    ∷ []
unfolding commands number_after delay generated_value printed digits
commands-1_2 = refl

-- no round has all three, so only the file of no rounds is as long as that
most_commands-rows : map most_commands (0 ∷ 1 ∷ 2 ∷ []) ≡ 7 ∷ 10 ∷ 13 ∷ []
most_commands-rows = refl

length-commands : length (commands 0 0) ∷ length (commands 0 1) ∷ [] ≡ 7 ∷ 8 ∷ []
unfolding commands
length-commands = refl
