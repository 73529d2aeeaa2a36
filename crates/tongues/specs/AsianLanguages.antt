-- Chinese, Japanese, Korean and Thai, without plurals (docs/WORDS.md, "Languages").
use Rattle.tongues.specs.Text.{text}
use Rattle.tongues.specs.Speech.{Speech, spoken}
use Rattle.tongues.specs.Words.{words, always}

-- Chinese: one word a unit
abbrev pub chinese : Speech
chinese = spoken "刚刚" "大于" "之前" (always
    (words "纳秒" "微秒" "毫秒" "秒" "分" "小时" "天" "周" "月" "年"))

-- Japanese: one word a unit; all three spaces are empty
abbrev pub japanese : Speech
japanese = record (spoken "今" "後" "前" (always
    (words "ナノ秒" "マイクロ秒" "ミリ秒" "秒" "分" "時間" "日" "週間" "月" "年"))) {
      near_past = text "";
      between_chunks = text "";
      between_value_and_word = text "";
    }

-- Korean: one word a unit; no space stands between a count and its unit
abbrev pub korean : Speech
korean = record (spoken "방금" "오래전" "전" (always
    (words "나노초" "마이크로초" "밀리초" "초" "분" "시간" "일" "주" "개월" "년"))) {
      between_value_and_word = text "";
    }

-- Thai: one word a unit; no space stands beside the word for the past
abbrev pub thai : Speech
thai = record (spoken "ตอนนี้" "นานมาแล้ว" "ที่แล้ว" (always
    (words "นาโนวินาที" "ไมโครวินาที" "มิลลิวินาที" "วินาที" "นาที" "ชั่วโมง" "วัน" "สัปดาห์" "เดือน" "ปี"))) {
      near_past = text "";
    }
